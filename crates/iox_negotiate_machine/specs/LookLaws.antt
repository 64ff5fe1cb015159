-- A theorem: what a lookup finds in a table is the phase of the machine.
use Rattle.std.specs.Prelude.{ℕ, ◌≡◌, ◌⊎◌, List}
use Rattle.std.specs.List.{IsAmong}
use Rattle.iox_command.specs.NegotiateBase.DescribeBase.Hash.{service_hash_of}
use Rattle.iox_command.specs.NegotiateBase.DescribeBase.declared.pattern.MessagingPattern.{MessagingPattern}
use Rattle.iox_machine.specs.Phase.{Phase, Absent, BeingMade, Published, Emptied}
use Rattle.iox_machine.specs.State.{State}
use Rattle.iox_negotiate_machine.specs.Standing.{TableStands, IsLast, description_of}
use Rattle.iox_negotiate_table.specs.Contents.{Contents}
use Rattle.iox_negotiate_table.specs.NegotiateBase.Access.{Look}
use Rattle.iox_negotiate_table.specs.NegotiateBase.Sight.{IsSight}
use Rattle.iox_negotiate_table.specs.NegotiateBase.declared.answer.LookAnswer.{LookAnswer}
use Rattle.iox_negotiate_table.specs.NegotiateBase.declared.sight.Sight.{Sight as Shown}
use Rattle.iox_negotiate_table.specs.NegotiateBase.declared.sight.Sight.TheVariants as shown
use Rattle.iox_negotiate_table.specs.NegotiateBase.declared.sight.SightFailure.TheVariants.{HangsInCreation, OutOfMemory}
use Rattle.iox_negotiate_table.specs.Sights.{Sight}

module _ (pattern : MessagingPattern) (name : List ℕ) where
  -- What a lookup finds in a phase, after these numbers were taken: nothing; that a service is being made; or the agreement, under
  -- the number that was taken last, unless memory runs out to copy or read it. A lookup never finds a corrupted description.
  abbrev pub ShowsPhase : Phase → List ℕ → Shown → Type 0
  ShowsPhase (Absent lives) taken sight = sight ≡ shown.Absent
  ShowsPhase (BeingMade life by) taken sight = sight ≡ shown.Failed HangsInCreation
  ShowsPhase (Published life agreed nodes) taken sight =
      IsLast (λ number. sight ≡ shown.Standing number (description_of pattern name agreed)) taken ⊎ (sight ≡ shown.Failed OutOfMemory)
  ShowsPhase (Emptied life agreed by) taken sight =
      IsLast (λ number. sight ≡ shown.Standing number (description_of pattern name agreed)) taken ⊎ (sight ≡ shown.Failed OutOfMemory)

module _ (T : Type 0) where
  -- A lookup under a pattern and name finds the phase that the machine has there, and changes nothing.
  abbrev pub LookMatches : Type 0
  LookMatches = (names : List (List ℕ)) (pattern : MessagingPattern) (name : List ℕ) (taken : MessagingPattern → List ℕ → List ℕ)
      (old new : Contents) (answer : LookAnswer) (sight : Shown) (state : State T)
      → IsAmong names name → TableStands names taken old state
      → Sight old (Look (service_hash_of pattern name) answer) new → IsSight (service_hash_of pattern name) answer sight
      → ShowsPhase pattern name (state.phases pattern name) (taken pattern name) sight × (new ≡ old)
