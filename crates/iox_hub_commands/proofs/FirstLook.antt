-- The first lookup of a call tells a refusal, and nothing happens; or the call goes on.
use Rattle.std.proofs.Common.{◌≡◌, ℕ, zero, suc, ◌||◌, Bool, true, false, cond, List, [], ◌∷◌, map, Option, None, Some, Result, Err}
use Rattle.std.proofs.Common.{◌∙◌, refl, sym, ap, inl, inr, min, nat_eq}
use Rattle.std.specs.List.{filter}
use Rattle.iox_command.specs.NegotiateBase.declared.failure.CreateFailure.TheVariants as uncreated
use Rattle.iox_command.specs.declared.refusal.Refusal.{Refusal}
use Rattle.iox_command.specs.declared.step.StepBefore.{StepBefore}
use Rattle.iox_hub_base.specs.DescribeBase.Detail.{Detail}
use Rattle.iox_hub_base.specs.DescribeBase.declared.message_type.MessageTypeDetails.{MessageTypeDetails}
use Rattle.iox_hub_base.specs.declared.hub.HashState.{HashState}
use Rattle.iox_hub_base.specs.declared.hub.HashState.TheVariants as state
use Rattle.iox_hub_base.specs.declared.hub.Hub.{Hub}
use Rattle.iox_hub_commands.specs.Creating.{CreatesNumbered}
use Rattle.iox_hub_commands.specs.OpeningCalls.{CallsNumbered, IsToldFirst, OpensUnlessLacking}
use Rattle.iox_hub_commands.specs.Refusing.{create_told, first_look}
use Rattle.iox_hub_commands.specs.ServicesTables.{FactoryTable}
use Rattle.iox_hub_commands.specs.Steps.{acts_first, from, last_access, list_before, lists_of, step_of}
use Rattle.iox_hub_commands.specs.declared.services.asked.ServiceAsked.{ServiceAsked}
use Rattle.iox_hub_commands.specs.declared.services.opening_call.OpeningCall.{OpeningCall}
use Rattle.iox_hub_commands.specs.declared.services.opening_call.OpeningCall.TheVariants as opening
use Rattle.iox_negotiate_table.specs.Stepped.{next_list}

-- ---- lists of steps

module _ (name : List ℕ) (types : MessageTypeDetails) where
  none_kept : (steps : List StepBefore) → acts_first steps ≡ false → list_before name types steps 1 ≡ []
  none_kept [] none = refl
  none_kept (before ∷ rest) none = here (nat_eq before.access 1) none (none_kept rest)
    where
      here : (is : Bool) → (is || acts_first rest) ≡ false → (acts_first rest ≡ false → list_before name types rest 1 ≡ [])
          → map (λ (it : StepBefore). step_of name types it.step)
          (cond is (before ∷ filter (λ (it : StepBefore). nat_eq it.access 1) rest) (filter (λ (it : StepBefore). nat_eq it.access 1) rest))
          ≡ []
      here true none later = absurd cc
      here false none later = later none

  -- where none is named before the first storage operation its list is empty
  pub none_next : (steps : List StepBefore) → acts_first steps ≡ false → next_list (lists_of name types steps) ≡ []
  none_next steps none = here (min (last_access steps) 16)
    where
      here : (count : ℕ) → next_list (map (list_before name types steps) (from 1 count)) ≡ []
      here zero = refl
      here (suc count) = none_kept steps none

-- ---- the calls

-- who is told one refusal is told no other
pub answers : {one other : Refusal} → Some one ≡ Some other → one ≡ other
answers {one} {other} same = cc

-- and isn't told nothing
pub none_told : {told : Option Refusal} {why : Refusal} → None ≡ told → Some why ≡ told → ⊥
none_told {told} {why} none some = let same : None ≡ Some why = none ∙ sym some in cc

module _ {T U B D : Type 0} (payload user_header : Detail) (types : MessageTypeDetails) (asked : ServiceAsked) (steps : List StepBefore)
    (table : FactoryTable) (hub new : Hub T U B D) (answer : Refusal) (same : new ≡ hub) where
  -- What a first lookup tells whoever calls is what the call comes to, and nothing else happens. So it is with what the settings tell.
  pub told_at_first_look : (call : OpeningCall) → IsToldFirst call types asked.options (first_look asked steps hub) (Some answer)
      → CallsNumbered call true payload user_header types asked steps table hub (Some (Err answer)) table new
  told_at_first_look (opening.Create attributes) (Some failure, is, told) = (
    Some failure,
    inl is,
    (ap (λ (it : Refusal). Some (Err it)) (answers told), refl, same),
  )
  told_at_first_look (opening.Create attributes) (None, accepted, told) = among (first_look asked steps hub) refl told
    where
      among : (found : Option HashState) → first_look asked steps hub ≡ found → Some answer ≡ create_told asked.options None found
          → CreatesNumbered true payload user_header types asked attributes.now steps table hub (Some (Err answer)) table new
      among None finds told = absurd cc
      among (Some state.Absent) finds told = absurd cc
      among (Some state.Locked) finds told = (
        Some uncreated.HangsInCreation,
        inr (accepted, inr (finds, refl)),
        (ap (λ (it : Refusal). Some (Err it)) (answers told), refl, same),
      )
      among (Some state.Described) finds told = (
        Some uncreated.AlreadyExists,
        inr (accepted, inl (finds, refl)),
        (ap (λ (it : Refusal). Some (Err it)) (answers told), refl, same),
      )
  told_at_first_look (opening.Open attributes) told = inl (answer, sym told, (refl, refl, same))
  told_at_first_look (opening.OpenOrCreate attributes) (refused, is, told) = inl (refused, answer, is, sym told, (refl, refl, same))

module _ {T U B D : Type 0} (payload user_header : Detail) (types : MessageTypeDetails) (asked : ServiceAsked) (steps : List StepBefore)
    (table : FactoryTable) (hub : Hub T U B D) where
  -- Where nothing is told, the call goes on.
  pub goes_on : (answer : Option (Result ℕ Refusal)) (after : FactoryTable) (new : Hub T U B D) (call : OpeningCall)
      → IsToldFirst call types asked.options (first_look asked steps hub) None
      → OpensUnlessLacking call payload user_header types asked steps table hub answer after new
      → CallsNumbered call true payload user_header types asked steps table hub answer after new
  goes_on answer after new (opening.Create attributes) (Some failure, is, none) does = absurd cc
  goes_on answer after new (opening.Create attributes) (None, accepted, none) does = (
    None,
    (accepted, λ stands. none_told none (sym (ap (λ found. create_told asked.options None found) stands))),
    does,
  )
  goes_on answer after new (opening.Open attributes) none does = inr does
  goes_on answer after new (opening.OpenOrCreate attributes) none does = inr does

  -- Where the node isn't there, nothing happens.
  pub is_skipped : (call : OpeningCall) → CallsNumbered call false payload user_header types asked steps table hub None table hub
  is_skipped (opening.Create attributes) = (refl, refl, refl)
  is_skipped (opening.Open attributes) = (refl, refl, refl)
  is_skipped (opening.OpenOrCreate attributes) = (refl, refl, refl)
