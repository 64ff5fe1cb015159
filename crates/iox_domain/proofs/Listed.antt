-- Who is listed after a port came or left.
use Rattle.std.proofs.Common.{arith, ◌≡◌, ◌≢◌, ◌∙◌, ◌+◌, ◌^◌, ◌<◌, ◌⊎◌, ℕ, zero, suc, Bool, true, false, not, List, get_or, length, set}
use Rattle.std.proofs.Common.{replicate, is_some, nat_lt, Option, None, Some, if◌then◌else◌, refl, sym, ap, inl, inr}
use Rattle.std.proofs.lemmas.Bool.{cases_eq, cases_lt}
use Rattle.std.proofs.lemmas.List.{get_or-set_other, get_or-set_same, get_or_past, length-set}
use Rattle.std.specs.List.{position}
use Rattle.std.proofs.lemmas.List.Quantifiers.{position-Some}
use Rattle.iox_domain.specs.Container.declared.container.Member.{Member}
use Rattle.iox_domain.specs.Making.{numbered}
use Rattle.iox_domain.specs.Rolls.{RollState, changed_to, may_change, free_place, is_listed, left}
use Rattle.iox_domain.specs.declared.ports.service_ports.ServicePorts.{ServicePorts}
use Rattle.iox_domain.specs.DomainPorts.declared.publisher_entry.PublisherEntry.{PublisherEntry}
use Rattle.iox_domain.proofs.TiedWell.{gone_there}
use Rattle.iox_domain.specs.Roomy.{IsListOnce}

-- what is listed after a place changed
pub entered_cases : {V : Type 0} (places : List (Option V)) (place other : ℕ) (came listed : V)
    → get_or (set places place (Some came)) other None ≡ Some listed → ((other ≡ place) × (came ≡ listed))
    ⊎ ((other ≢ place) × (get_or places other None ≡ Some listed))
entered_cases places place other came listed is = elim (cases_eq other place) [
  | inl same ↦ elim (cases_lt place (length places)) [
    | inl within ↦
        let both : Some came ≡ Some listed = sym (get_or-set_same places place (Some came) None within) ∙ ap
        (λ at. get_or (set places place (Some came)) at None) (sym same) ∙ is in
        let own : came ≡ listed = cc in
        inl (same, own)
    | inr past ↦
        let no : None ≡ Some listed = sym (get_or_past (set places place (Some came)) other None
        (omega (arith, past, same, length-set places place (Some came)))) ∙ is in absurd (cc)
  ]
  | inr not ↦ inr (not, sym (get_or-set_other places place other (Some came) None not) ∙ is)
]

-- a place that is free lists nobody
none_some : {V : Type 0} (found : Option V) → not (is_some found) ≡ true → found ≡ None
none_some None is = refl
none_some (Some x) is = cc

free_by : {V : Type 0} (may : Bool) (roll : RollState V) (place : ℕ)
    → (if may then position (λ member. not (is_some member)) roll.places else None) ≡ Some place → (place < length roll.places)
    × (get_or roll.places place None ≡ None)
free_by true roll place is =
    let found = position-Some (λ member. not (is_some member)) roll.places place None is in
    (found.0, none_some (get_or roll.places place None) found.1)
free_by false roll place is = absurd (cc)

numbered_by : (may : Bool) (found : Option ℕ) (place : ℕ) → (if may then found else None) ≡ Some place → found ≡ Some place
numbered_by true found place is = is
numbered_by false found place is = absurd (cc)

pub free_none : {V T U : Type 0} (roll : RollState V) (ports : ServicePorts T U) (place : ℕ)
    → numbered (free_place roll) ports ≡ Some place → (place < length roll.places) × (get_or roll.places place None ≡ None)
free_none roll ports place is = free_by (may_change roll) roll place
    (numbered_by (nat_lt (ports.next_port + 1) (2 ^ 64)) (free_place roll) place is)

-- who left isn't listed, and every other is where it was
left_by : {V : Type 0} (may listed : Bool) (place other : ℕ) (roll : RollState V) → other ≢ place
    → get_or (if may then (if listed then changed_to (set roll.places place None) roll else roll) else roll).places other None
    ≡ get_or roll.places other None
left_by true true place other roll not = get_or-set_other roll.places place other None None not
left_by true false place other roll not = refl
left_by false listed place other roll not = refl

pub left_other : {V : Type 0} (place other : ℕ) (roll : RollState V) → other ≢ place
    → get_or (left place roll).places other None ≡ get_or roll.places other None
left_other place other roll not = left_by (may_change roll) (is_listed place roll) place other roll not

set_less : {V : Type 0} (places : List (Option V)) (place other : ℕ) (listed : V)
    → get_or (set places place None) other None ≡ Some listed → get_or places other None ≡ Some listed
set_less places place other listed is = elim (cases_eq other place) [
  | inl same ↦ let no : None ≡ Some listed
      = sym (gone_there places place) ∙ ap (λ at. get_or (set places place None) at None) (sym same) ∙ is in absurd (cc)
  | inr not ↦ sym (get_or-set_other places place other None None not) ∙ is
]

less_by : {V : Type 0} (may there : Bool) (place other : ℕ) (roll : RollState V) (listed : Member V)
    → get_or (if may then (if there then changed_to (set roll.places place None) roll else roll) else roll).places other None ≡ Some listed
    → get_or roll.places other None ≡ Some listed
less_by true true place other roll listed is = set_less roll.places place other listed is
less_by true false place other roll listed is = is
less_by false there place other roll listed is = is

pub left_less : {V : Type 0} (place other : ℕ) (roll : RollState V) (listed : Member V)
    → get_or (left place roll).places other None ≡ Some listed → get_or roll.places other None ≡ Some listed
left_less place other roll listed is = less_by (may_change roll) (is_listed place roll) place other roll listed is

pub list_left : (next place : ℕ) (roll : RollState PublisherEntry) → IsListOnce next roll.places → IsListOnce next (left place roll).places
list_left next place roll once = record {
  apart = λ one other first second is_first is_second same. once.apart one other first second (left_less place one roll first is_first)
      (left_less place other roll second is_second) same;
  below = λ at member is. once.below at member (left_less place at roll member is);
}

-- a publisher comes under the next number
pub list_entered : (next place : ℕ) (places : List (Option (Member PublisherEntry))) (came : Member PublisherEntry)
    → came.value.publisher ≡ next → IsListOnce next places → IsListOnce (next + 1) (set places place (Some came))
list_entered next place places came named once = record {
  apart = λ one other first second is_first is_second same. elim (entered_cases places place one came first is_first) [
    | inl here ↦ elim (entered_cases places place other came second is_second) [
      | inl there ↦ here.0 ∙ sym there.0
      | inr elsewhere ↦ absurd
          (omega (arith, once.below other second elsewhere.1, same, named, ap (λ (m : Member PublisherEntry). m.value.publisher) here.1))
    ]
    | inr elsewhere ↦ elim (entered_cases places place other came second is_second) [
      | inl there ↦ absurd (omega
          (arith, once.below one first elsewhere.1, same, named, ap (λ (m : Member PublisherEntry). m.value.publisher) there.1))
      | inr also ↦ once.apart one other first second elsewhere.1 also.1 same
    ]
  ];
  below = λ at member is. elim (entered_cases places place at came member is) [
    | inl here ↦ omega (arith, named, ap (λ (m : Member PublisherEntry). m.value.publisher) here.1)
    | inr elsewhere ↦ omega (arith, once.below at member elsewhere.1)
  ];
}

pub list_later : (next : ℕ) (places : List (Option (Member PublisherEntry))) → IsListOnce next places → IsListOnce (next + 1) places
list_later next places once = record { apart = once.apart; below = λ place member is. omega (arith, once.below place member is) }

-- a new list lists nobody
pub nobody_listed : {V : Type 0} (count place : ℕ) (listed : V) → get_or (replicate count None) place None ≡ Some listed → ⊥
nobody_listed zero place listed is = cc
nobody_listed (suc count) zero listed is = cc
nobody_listed (suc count) (suc place) listed is = nobody_listed count place listed is

pub list_new : (next count : ℕ) → IsListOnce next (replicate count None)
list_new next count = record {
  apart = λ one other first second is_first is_second same. absurd (nobody_listed count one first is_first);
  below = λ place member is. absurd (nobody_listed count place member is);
}
