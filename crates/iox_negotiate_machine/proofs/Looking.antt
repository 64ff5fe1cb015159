-- A look shows the phase.
use Rattle.std.proofs.Common.{◌≡◌, ℕ, List, [], ◌∷◌, Option, Some, refl, ap, subst, ◌∙◌, ◌⊎◌, inl, inr}
use Rattle.iox_command.specs.NegotiateBase.Describe.Line.{line}
use Rattle.iox_command.specs.NegotiateBase.DescribeBase.Hash.{service_hash_of}
use Rattle.iox_command.specs.NegotiateBase.DescribeBase.declared.hash.ServiceHash.{ServiceHash}
use Rattle.iox_command.specs.NegotiateBase.DescribeBase.declared.pattern.MessagingPattern.{MessagingPattern}
use Rattle.iox_command.specs.NegotiateBase.DescribeSettings.Agreement.{Agreement as Description}
use Rattle.iox_machine.specs.Agreement.{Agreement}
use Rattle.iox_machine.specs.Phase.{Phase, Absent, BeingMade, Published, Emptied}
use Rattle.iox_negotiate.proofs.Lines.{same-line}
use Rattle.iox_negotiate_machine.specs.LookLaws.{ShowsPhase, LookMatches}
use Rattle.iox_negotiate_machine.specs.Standing.{IsLast, IsDescribed, PhaseStands, description_of}
use Rattle.iox_negotiate_table.specs.Contents.{Contents, entry_at}
use Rattle.iox_negotiate_table.specs.NegotiateBase.Sight.{IsRead, IsSight}
use Rattle.iox_negotiate_table.specs.NegotiateBase.declared.answer.LookAnswer.{LookAnswer}
use Rattle.iox_negotiate_table.specs.NegotiateBase.declared.sight.Sight.{Sight as Shown}
use Rattle.iox_negotiate_table.specs.NegotiateBase.declared.sight.Sight.TheVariants as shown
use Rattle.iox_negotiate_table.specs.NegotiateBase.declared.sight.SightFailure.TheVariants as failure
use Rattle.iox_negotiate_table.specs.Sights.{Looks}
use Rattle.iox_negotiate_table.specs.declared.entry.Entry.{Entry}
use Rattle.iox_negotiate_table.specs.declared.entry.Entry.TheVariants.{Described}

module _ (pattern : MessagingPattern) (name : List ℕ) (table : Contents) where
  abbrev hash : ServiceHash
  hash = service_hash_of pattern name

  -- what is shown of a description that lies there
  abbrev ShowsAgreed : Agreement → ℕ → Shown → Type 0
  ShowsAgreed agreed number sight =
      (sight ≡ shown.Standing number (description_of pattern name agreed)) ⊎ (sight ≡ shown.Failed failure.OutOfMemory)

  -- it is read as what is agreed on, or no memory is found
  reads : (agreed : Agreement) (number : ℕ) (is : IsDescribed pattern name table agreed number) (sight : Shown)
      → IsRead hash number (line is.version (description_of pattern name agreed)) sight → ShowsAgreed agreed number sight
  reads agreed number is shown.Absent read = absurd read
  reads agreed number is (shown.Standing at given) read
      = inl (there at given read.0
      (same-line given (description_of pattern name agreed) (line is.version (description_of pattern name agreed))
      (line is.version (description_of pattern name agreed)) read.1.within is.within read.1.spelled (is.version, is.said, refl) refl
      read.1.own))
    where
      there : (at : ℕ) (given : Description) → at ≡ number → given ≡ description_of pattern name agreed
          → shown.Standing at given ≡ shown.Standing number (description_of pattern name agreed)
      there at given same agrees = ap (λ (n : ℕ). shown.Standing n given) same
          ∙ ap (λ (d : Description). shown.Standing number d) agrees
  reads agreed number is (shown.Failed failure.HangsInCreation) read = absurd read
  reads agreed number is (shown.Failed failure.InsufficientPermissions) read = absurd read
  reads agreed number is (shown.Failed failure.ServiceInCorruptedState) read =
      absurd (read (description_of pattern name agreed) (record { within = is.within; spelled = (is.version, is.said, refl); own = refl }))
  reads agreed number is (shown.Failed failure.OutOfMemory) read = inr refl

  finds : (agreed : Agreement) (number : ℕ) (is : IsDescribed pattern name table agreed number) (answer : LookAnswer) (sight : Shown)
      → Looks (entry_at hash table) answer → IsSight hash answer sight → ShowsAgreed agreed number sight
  finds agreed number is answer sight looks seen =
      there (subst (λ (e : Option Entry). Looks e answer) is.described looks)
    where
      there : Looks (Some (Described number (line is.version (description_of pattern name agreed)))) answer
          → ShowsAgreed agreed number sight
      there (inl found) = reads agreed number is sight (subst (λ (a : LookAnswer). IsSight hash a sight) found seen)
      there (inr lacking) = inr (subst (λ (a : LookAnswer). IsSight hash a sight) lacking seen)

  -- under the number that was taken last
  found-last : {So : ℕ → Type 0} (agreed : Agreement) (sight : Shown) (taken : List ℕ) → IsLast So taken
      → ((number : ℕ) → So number → ShowsAgreed agreed number sight)
      → IsLast (λ number. sight ≡ shown.Standing number (description_of pattern name agreed)) taken
      ⊎ (sight ≡ shown.Failed failure.OutOfMemory)
  found-last agreed sight [] so then = absurd so
  found-last agreed sight (number ∷ before) so then = then number so

  pub looks-shown : (taken : List ℕ) (phase : Phase) → PhaseStands pattern name table taken phase → (answer : LookAnswer) (sight : Shown)
      → Looks (entry_at hash table) answer → IsSight hash answer sight → ShowsPhase pattern name phase taken sight
  looks-shown taken (Absent lives) stands answer sight looks seen =
      subst (λ (a : LookAnswer). IsSight hash a sight) (subst (λ (e : Option Entry). Looks e answer) stands.lies looks) seen
  looks-shown [] (BeingMade life by) stands answer sight looks seen = absurd stands.lies
  looks-shown (number ∷ before) (BeingMade life by) stands answer sight looks seen =
      subst (λ (a : LookAnswer). IsSight hash a sight) (subst (λ (e : Option Entry). Looks e answer) stands.lies looks) seen
  looks-shown taken (Published life agreed nodes) stands answer sight looks seen =
      found-last agreed sight taken stands.lies (λ number so. finds agreed number so.0 answer sight looks seen)
  looks-shown taken (Emptied life agreed by) stands answer sight looks seen =
      found-last agreed sight taken stands.lies (λ number so. finds agreed number so.0 answer sight looks seen)

pub look-matches : (T : Type 0) → LookMatches T
look-matches T names pattern name taken old new answer sight state asked stands h seen = (
  looks-shown pattern name old (taken pattern name) (state.phases pattern name) (stands.phases pattern name asked) answer sight h.0 seen,
  h.1,
)
