-- The history comes back, one message after the other.
use Rattle.std.proofs.Common.{arith, ◌≡◌, ◌+◌, ◌-◌, ◌<◌, ◌≤◌, ◌∷◌, [], ◌++◌, ℕ, List, length, length-append, map, take, drop, get_or}
use Rattle.std.proofs.Common.{slice_get, Option, Some, sym, ap, ◌∙◌}
use Rattle.std.proofs.lemmas.List.{map-append, length-map, length-take-le, take_more}
use Rattle.std.proofs.lemmas.Option.{get_or_from_slice_get, slice_get-get_or}
use Rattle.iox_domain_ports.specs.DomainSlots.Uses.{newest}
use Rattle.iox_domain_ports.specs.MessagesSending.{SenderState, with_uses}
use Rattle.iox_lanes_machine.specs.LanesBase.Table.{TableWords}
use Rattle.iox_lanes_opening.specs.Leaving.{message_in}
use Rattle.iox_lanes_opening.specs.Restoring.{AreLeft, IsOwn, IsQuiet, OnlyRemembers, MayRememberAll, messages_in}
use Rattle.iox_lanes_opening.proofs.Returning.{message_of}

-- the newest of a list that isn't too long are all of it
newest_all : {X : Type 0} (n : ℕ) (xs : List X) → length xs ≤ n → newest n xs ≡ xs
newest_all n xs few = let none : length xs - n ≡ 0 = omega (arith, few) in ap (λ k. drop k xs) none

-- a publisher of which only the history has changed is as quiet as before
pub quiet_yet : {T U : Type 0} (old new : SenderState T U) → OnlyRemembers old new → IsQuiet old → IsQuiet new
quiet_yet old new only quiet = record {
  idle = ap (λ s. s.uses.sending) only ∙ quiet.idle;
  unlent = ap (λ s. s.uses.loans) only ∙ quiet.unlent;
  room = omega (arith, quiet.room, ap (λ s. s.room) only);
}

-- n slots of the history have come back
pub record Remembering {T U : Type 0} (value_of : List ℕ → T) (header_of : List ℕ → Option ℕ × U) (table : TableWords) (history : List ℕ)
    (first : ℕ) (start now : SenderState T U) (count : ℕ) : Type 0 where
  pub rest : OnlyRemembers start now
  pub left : AreLeft value_of header_of table first now.uses
  pub remembers : MayRememberAll table history first start
      → now.uses.history ≡ messages_in value_of header_of table first (take count history)

pub one_remembered : {T U : Type 0} (value_of : List ℕ → T) (header_of : List ℕ → Option ℕ × U) (table : TableWords) (history : List ℕ)
    (first : ℕ)
    (start now next : SenderState T U) (count slot : ℕ)
    → Remembering value_of header_of table history first start now count → count < length history → slot ≡ get_or history count 0
    → (IsOwn first slot table.sizes.slots now.uses
    → next ≡ with_uses (record now.uses
    { history = newest now.uses.kept (now.uses.history ++ message_in value_of header_of table first (slot - first) ∷ []) }) now)
    → OnlyRemembers now next → AreLeft value_of header_of table first next.uses
    → Remembering value_of header_of table history first start next (count + 1)
one_remembered value_of header_of table history first start now next count slot so_far below read kept only left = record {
  rest = only ∙ ap (λ s. with_uses (record s.uses { history = next.uses.history }) s) so_far.rest;
  left = left;
  remembers = λ may.
      let is : slice_get history count ≡ Some slot = slice_get-get_or history count 0 below ∙ ap Some (sym read) in
      let own = may.own count slot is in
      let first_is : now.uses.first ≡ start.uses.first = ap (λ s. s.uses.first) so_far.rest in
      let size_is : now.uses.size ≡ start.uses.size = ap (λ s. s.uses.size) so_far.rest in
      let kept_is : now.uses.kept ≡ start.uses.kept = ap (λ s. s.uses.kept) so_far.rest in
      let own_now : IsOwn first slot table.sizes.slots now.uses
      = record {
        from = own.from;
        there = own.there;
        behind = omega (arith, own.behind, first_is);
        within
            = omega (arith, own.within, first_is, size_is);
      } in
      let history_is : now.uses.history ≡ messages_in value_of header_of table first (take count history) = so_far.remembers may in
      let long : length now.uses.history ≡ count
      = ap length history_is ∙ length-map (take count history) (message_of value_of header_of table first) ∙ length-take-le count
      history (omega (arith, below)) in
      let grown : take (count + 1) history ≡ take count history ++ slot ∷ []
      = take_more history count 0 below ∙ ap (λ x. take count history ++ x ∷ []) (get_or_from_slice_get history count slot 0 is) in
      ap (λ s. s.uses.history) (kept own_now)
      ∙ newest_all now.uses.kept (now.uses.history ++ message_of value_of header_of table first slot ∷ [])
      (omega (arith, length-append now.uses.history (message_of value_of header_of table first slot ∷ []), long, below, kept_is, may.room))
      ∙ ap (λ h. h ++ message_of value_of header_of table first slot ∷ []) history_is
      ∙ sym (ap (map (message_of value_of header_of table first)) grown ∙ map-append (message_of value_of header_of table first)
      (take count history) (slot ∷ []));
}
