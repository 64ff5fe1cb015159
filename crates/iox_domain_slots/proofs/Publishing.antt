-- The bookkeeping of a publisher through its steps.
use Rattle.std.proofs.Common.{arith, ◌≡◌, ◌+◌, ◌^◌, ◌<◌, ◌≤◌, ◌∷◌, [], ◌++◌, ℕ, List, length, length-append, get_or, set, map, Option}
use Rattle.std.proofs.Common.{Some, None, sym, subst, ap, ◌∙◌, replicate, Result, Ok, Err, IfOk, OnErr}
use Rattle.std.specs.Option.{option_to_list}
use Rattle.std.specs.declared.alloc.AllocError.{AllocError}
use Rattle.std.proofs.Math.Logic.{⊎_elim}
use Rattle.std.proofs.Math.Dec.{eqb}
use Rattle.std.proofs.lemmas.List.Sums.{count_by-le-length}
use Rattle.std.proofs.lemmas.Bool.Decides.{eqb_tells}
use Rattle.std.proofs.lemmas.List.{get_or-set_same, get_or-set_other}
use Rattle.iox_domain_slots.specs.Uses.{Uses, Connection, held, in_use, loaned}
use Rattle.iox_domain_slots.specs.Counting.{SlotsState, Moves, LoanSlot, LoanUse, times, uses_of, referred}
use Rattle.iox_domain_slots.specs.Links.{LinksState, all_slots, seen, seen_uses, IsTally, IsSmall}
use Rattle.iox_domain_slots.proofs.Full.{count_stays}
use Rattle.iox_domain_slots.proofs.Counts.{one, times_append, times_end, times_one}

-- what is in use, counted by its parts
pub in_use_times : (uses : Uses ℕ ℕ) (k : ℕ) → times k (in_use uses) ≡
    times k (option_to_list uses.sending) + (times k uses.loans + (times k uses.history + times k (held uses.connections)))
in_use_times uses k = omega (
  arith,
  times_append k (option_to_list uses.sending) (uses.loans ++ (uses.history ++ held uses.connections)),
  times_append k uses.loans (uses.history ++ held uses.connections),
  times_append k uses.history (held uses.connections),
)

-- a first use of a slot
pub first_use : (counts : List ℕ) (i k : ℕ) → i < length counts
    → get_or (set counts i (get_or counts i 0 + 1)) k 0 ≡ get_or counts k 0 + one k i
first_use counts i k within = ⊎_elim
    (λ same. rw same.0 (rw same.1 (get_or-set_same counts i (get_or counts i 0 + 1) 0 within)))
    (λ other. rw other.0 (omega (arith, get_or-set_other counts i k (get_or counts i 0 + 1) 0 other.1)))
    (eqb_tells k i)

-- all uses are counted once what came back is taken back
pub tally_moved : (old new : SlotsState) (sending : Option ℕ) (before after : LinksState) → IsTally old sending before
    → Moves old (all_slots before.links) new (all_slots after.links) → IsTally new sending after
tally_moved old new sending before after tally moves slot =
    omega (arith, tally slot, moves.moved slot, ap (λ s. times slot s.loans) moves.same, ap (λ s. times slot s.history) moves.same)

-- and once a loan is out
pub tally_loaned : (old new : SlotsState) (sending : Option ℕ) (links : LinksState) (result : Option ℕ) → IsTally old sending links
    → LoanSlot old result new → IsTally new sending links
tally_loaned old new sending links None tally loan slot = subst (λ s. IsTally s sending links) (sym loan.1) tally slot
tally_loaned old new sending links (Some lent) tally loan slot =
    subst (λ s. IsTally s sending links) (sym loan.3)
    (λ k. omega (arith, tally k, first_use old.references lent k loan.1, times_end k old.loans lent)) slot

pub small_loaned : (old new : SlotsState) (result : Option ℕ) → IsSmall old → length old.loans < old.most_loans
    → LoanSlot old result new → IsSmall new
small_loaned old new None small room loan = subst IsSmall (sym loan.1) small
small_loaned old new (Some lent) small room loan =
    subst IsSmall (sym loan.3) (omega (arith, length-append old.loans (lent ∷ []), room), small.1, small.2, small.3)

-- all uses stay counted when a slot is sent that nothing was sent before
pub tally_claimed : (old new : SlotsState) (sending : Option ℕ) (links : LinksState) (slot : ℕ) → sending ≡ None
    → slot < length old.references → new ≡ referred slot old
    → IsTally old sending links → IsTally new (Some slot) links
tally_claimed old new sending links slot alone there claimed tally = subst (λ s. IsTally s (Some slot) links) (sym claimed) (λ k.
    omega (arith, tally k, first_use old.references slot k there, ap (λ s. times k (option_to_list s)) alone, times_one k slot))

-- with other connections
abbrev with_connections : Uses ℕ ℕ → List (Connection ℕ) → Uses ℕ ℕ
with_connections uses connections = record uses { connections = connections }

-- what came back is taken back: nothing of it is seen
pub looks_same : (before slots : SlotsState) (sending : Option ℕ) (links0 links1 : LinksState)
    → slots ≡ record before { references = slots.references } → links1 ≡ record links0 { links = links1.links }
    → map seen links1.links ≡ map seen links0.links
    → seen_uses slots sending links1 ≡ seen_uses before sending links0
looks_same before slots sending links0 links1 same_slots same_links looks =
    let first : seen_uses slots sending links1 ≡ seen_uses before sending links1 = ap (λ s. seen_uses s sending links1) same_slots in
    let second : seen_uses before sending links1 ≡ with_connections (seen_uses before sending links0) (map seen links1.links)
    = ap (λ l. seen_uses before sending l) same_links in
    first ∙ second ∙ ap (with_connections (seen_uses before sending links0)) looks

-- a loan by the bookkeeping is a loan as it is seen
pub loan_use : (before slots new : SlotsState) (sending : Option ℕ) (links0 links1 : LinksState) (result : Option ℕ)
    → slots ≡ record before { references = slots.references } → links1 ≡ record links0 { links = links1.links }
    → map seen links1.links ≡ map seen links0.links
    → IsTally slots sending links1 → ((k : ℕ) → times k (all_slots links1.links) ≡ times k (held (map seen links1.links)))
    → LoanSlot slots result new → LoanUse (seen_uses before sending links0) result (seen_uses new sending links1)
loan_use before slots new sending links0 links1 result same_slots same_links looks tally none_left loan = at result loan
  where
    counted : (k : ℕ) → uses_of k slots ≡ times k (in_use (seen_uses before sending links0))
    counted k = omega (
      arith,
      tally k,
      none_left k,
      in_use_times (seen_uses before sending links0) k,
      ap (λ s. times k s.loans) same_slots,
      ap (λ s. times k s.history) same_slots,
      ap (λ cs. times k (held cs)) looks,
    )

    viewed : seen_uses slots sending links1 ≡ seen_uses before sending links0
    viewed = looks_same before slots sending links0 links1 same_slots same_links looks

    at : (result : Option ℕ) → LoanSlot slots result new → LoanUse (seen_uses before sending links0) result (seen_uses new sending links1)
    at None loan = (
      (λ slot low high. omega (
        arith,
        counted slot,
        loan.0 slot (
          omega (arith, low, ap (λ s. s.first) same_slots),
          omega
              (arith, high, ap (λ s. s.first) same_slots, ap (λ s. s.size) same_slots),
        ),
      )),
      ap (λ s. seen_uses s sending links1) loan.1 ∙ viewed,
    )
    at (Some lent) loan = (
      omega (arith, loan.0.0, ap (λ s. s.first) same_slots),
      omega (arith, loan.0.1, ap (λ s. s.first) same_slots, ap (λ s. s.size) same_slots),
      omega (arith, loan.2, counted lent),
      ap (λ s. seen_uses s sending links1) loan.3 ∙ ap (loaned lent) viewed,
    )

-- all uses of a slot can be counted
pub countable : (slots : SlotsState) (sending : Option ℕ) (links : LinksState) → IsTally slots sending links → IsSmall slots
    → ((k : ℕ) → times k (all_slots links.links) ≤ 2 ^ 62) → (slot : ℕ) → uses_of slot slots + 1 < 2 ^ 64
countable slots sending links tally small few slot =
    omega (
      arith,
      tally slot,
      few slot,
      small.0,
      small.1,
      small.2,
      small.3,
      at_most slot slots.loans,
      at_most slot slots.history,
      at_most
          slot (option_to_list sending),
      single sending,
    )
  where
    at_most : (k : ℕ) (xs : List ℕ) → times k xs ≤ length xs
    at_most k xs = count_by-le-length (λ other. eqb k other) xs

    single : (one : Option ℕ) → length (option_to_list one) ≤ 1
    single None = omega arith
    single (Some x) = omega arith

-- all uses stay counted when a segment is opened
pub tally_opened : (old new : SlotsState) (sending : Option ℕ) (links : LinksState) (result : Result (Unit {0}) AllocError)
    → IsTally old sending links → IsSmall old
    → IfOk result (λ _. new ≡ record old { first = old.first + old.size; references = old.references ++ replicate old.size 0 })
    → OnErr result (new ≡ old) → IsTally new sending links × IsSmall new
tally_opened old new sending links (Ok done) tally small opened refused =
    let counts : new.references ≡ old.references ++ replicate old.size 0 = ap (λ s. s.references) opened in (
      (λ slot. omega (
        arith,
        tally slot,
        ap (λ rs. get_or rs slot 0) counts,
        count_stays old.references old.size slot,
        ap (λ s. times slot s.loans) opened,
        ap (λ s. times slot s.history) opened,
      )),
      subst IsSmall (sym opened) small,
    )
tally_opened old new sending links (Err error) tally small opened refused
    = subst (λ s. IsTally s sending links × IsSmall s) (sym refused) (tally, small)
