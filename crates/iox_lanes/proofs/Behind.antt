-- Lanes after what they found, one after the other.
use Rattle.std.proofs.Common.{ℕ, zero, suc, ◌≡◌, ◌+◌, ◌++◌, Bool, true, false, List, [], ◌∷◌, map, take, flat_map, slice_get, Some, None}
use Rattle.std.proofs.Common.{refl, sym, ap, ◌∙◌, arith, append_assoc, Option}
use Rattle.std.proofs.lemmas.Bool.{cond-true, cond-false}
use Rattle.iox_domain.specs.DomainPorts.Messages.{Message}
use Rattle.iox_domain.specs.DomainPorts.declared.publisher_port.PublisherPort.{PublisherPort}
use Rattle.iox_lanes_machine.specs.Findings.{finds, with_found, FindsTo}
use Rattle.iox_lanes_machine.specs.LanesBase.declared.words.word.SlotWord.TheVariants.{Header}
use Rattle.iox_lanes_machine.specs.Made.{listed}
use Rattle.iox_lanes_machine.specs.World.{World}
use Rattle.iox_lanes_machine.specs.declared.found.Found.{Found}
use Rattle.iox_lanes_machine.specs.declared.found.Found.TheVariants as found
use Rattle.iox_lanes_machine.proofs.Ends.{some_is}
use Rattle.iox_lanes.specs.Behind.{behind_findings, behind_finding}
use Rattle.iox_lanes.specs.Laid.{flat_listed, header_findings, message_findings, payload_findings, slot_in, value_findings, words_findings}
use Rattle.iox_lanes.specs.Spelling.{Spelling}

-- what is found, or not, leaves the lanes after it
pub found_behind : (m : World) (f : Found) (answer : Bool) (n : World) → FindsTo m f answer n → n ≡ behind_finding m f
unfolding behind_finding
found_behind m f true n is = is.1 ∙ sym (cond-true (finds m f) (with_found m f) m is.0)
found_behind m f false n is = is.1 ∙ sym (cond-false (finds m f) (with_found m f) m is.0)

-- nothing is found
pub behind_none : (m : World) → behind_findings m [] ≡ m
unfolding behind_findings
behind_none m = refl

-- a list after another
pub behind_both : (m : World) (fs gs : List Found) → behind_findings m (fs ++ gs) ≡ behind_findings (behind_findings m fs) gs
unfolding behind_findings
behind_both m [] gs = refl
behind_both m (f ∷ fs) gs = behind_both (behind_finding m f) fs gs

pub behind_first : (m : World) (f : Found) (fs : List Found) → behind_findings m (f ∷ fs) ≡ behind_findings (behind_finding m f) fs
unfolding behind_findings
behind_first m f fs = refl

-- one more of a list by number
pub next_listed : (m now after : World) (f : ℕ → Found) (count : ℕ) → now ≡ behind_findings m (listed f count)
    → after ≡ behind_finding now (f count) → after ≡ behind_findings m (listed f (count + 1))
next_listed m now after f count sofar is =
    let next : suc count ≡ count + 1 = omega arith in
    is ∙ ap (λ w. behind_finding w (f count)) sofar ∙ sym
    (behind_first (behind_findings m (listed f count)) (f count) [] ∙ behind_none
    (behind_finding (behind_findings m (listed f count)) (f count)))
    ∙ sym (behind_both m (listed f count) (f count ∷ [])) ∙ ap (λ n. behind_findings m (listed f n)) next

flat_one : {X : Type 0} (f : X → List Found) (xs : List X) (at : ℕ) (x : X) → slice_get xs at ≡ Some x
    → flat_map f (take (suc at) xs) ≡ flat_map f (take at xs) ++ f x
flat_one f [] at x there = absurd (cc there)
flat_one f (y ∷ xs) zero x there = ap (λ z. f z ++ []) (some_is y x there) ∙ nothing_behind (f x)
  where
    nothing_behind : (fs : List Found) → fs ++ [] ≡ fs
    nothing_behind [] = refl
    nothing_behind (g ∷ gs) = ap (λ hs. g ∷ hs) (nothing_behind gs)
flat_one f (y ∷ xs) (suc at) x there
    = ap (λ fs. f y ++ fs) (flat_one f xs at x there) ∙ sym (append_assoc (f y) (flat_map f (take at xs)) (f x))

-- one more of a list
pub next_of : {X : Type 0} (m now after : World) (f : X → List Found) (xs : List X) (at : ℕ) (x : X) → slice_get xs at ≡ Some x
    → now ≡ behind_findings m (flat_map f (take at xs)) → after ≡ behind_findings now (f x)
    → after ≡ behind_findings m (flat_map f (take (at + 1) xs))
next_of m now after f xs at x there sofar is =
    let next : suc at ≡ at + 1 = omega arith in
    is ∙ ap (λ w. behind_findings w (f x)) sofar ∙ sym (behind_both m (flat_map f (take at xs)) (f x)) ∙ ap (behind_findings m)
    (sym (flat_one f xs at x there)) ∙ ap (λ n. behind_findings m (flat_map f (take n xs))) next

-- one more list by number
pub next_flat : (m now after : World) (f : ℕ → List Found) (count : ℕ) → now ≡ behind_findings m (flat_listed f count)
    → after ≡ behind_findings now (f count) → after ≡ behind_findings m (flat_listed f (count + 1))
next_flat m now after f count sofar is =
    let next : suc count ≡ count + 1 = omega arith in
    is ∙ ap (λ w. behind_findings w (f count)) sofar ∙ sym (behind_both m (flat_listed f count) (f count)) ∙ ap
    (λ n. behind_findings m (flat_listed f n)) next

-- a finding and those of a list
pub behind_one : (m now after : World) (f : Found) (fs : List Found) → now ≡ behind_finding m f → after ≡ behind_findings now fs
    → after ≡ behind_findings m (f ∷ fs)
behind_one m now after f fs first is = is ∙ ap (λ w. behind_findings w fs) first ∙ sym (behind_first m f fs)

-- those of a list and one more
pub behind_last : (m now after : World) (fs : List Found) (f : Found) → now ≡ behind_findings m fs → after ≡ behind_finding now f
    → after ≡ behind_findings m (fs ++ f ∷ [])
behind_last m now after fs f sofar is =
    is ∙ ap (λ w. behind_finding w f) sofar ∙ sym
    (behind_first (behind_findings m fs) f [] ∙ behind_none (behind_finding (behind_findings m fs) f)) ∙ sym (behind_both m fs (f ∷ []))

-- those of two lists
pub behind_lists : (m now after : World) (fs gs : List Found) → now ≡ behind_findings m fs → after ≡ behind_findings now gs
    → after ≡ behind_findings m (fs ++ gs)
behind_lists m now after fs gs sofar is = is ∙ ap (λ w. behind_findings w gs) sofar ∙ sym (behind_both m fs gs)

-- the first value of a payload is all that is found of it
pub one_value : {T : Type 0} (words : T → List ℕ) (count slot : ℕ) (values : List T) (value : T) → Some value ≡ slice_get values 0
    → value_findings words count slot value ≡ payload_findings words count slot values
one_value words count slot [] value is = absurd (cc is)
one_value words count slot (first ∷ rest) value is = ap (value_findings words count slot) (some_is value first is)

-- of none nothing is
pub no_value : {T : Type 0} (words : T → List ℕ) (count slot : ℕ) (values : List T) → None ≡ slice_get values 0
    → [] ≡ payload_findings words count slot values
no_value words count slot [] is = refl
no_value words count slot (first ∷ rest) is = absurd (cc is)

pub both_are : {A B : Type 0} {a b : A} {x y : B} → a ≡ b → x ≡ y → ◌≡◌ {A = A × B} (a, x) (b, y)
both_are {A} {B} {a} {b} {x} {y} one other =
    let left : A → A × B = λ c. (c, x) in
    let right : B → A × B = λ c. (b, c) in
    ap left one ∙ ap right other

module _ {T U : Type 0} (spelling : Spelling T U) (first : ℕ) (port : PublisherPort T U) where
  -- the words of a message, header before user header before payload
  pub message_behind : (message : Message T U) (m first_word second_word third_word header after : World) (slot elements : ℕ)
      (user_header : Option ℕ × U) (values : List T)
      → first_word ≡ behind_finding m (found.Held slot (Header 0) port.owner.node_id)
      → second_word ≡ behind_finding first_word (found.Held slot (Header 1) port.number)
      → third_word ≡ behind_finding second_word (found.Held slot (Header 2) elements)
      → header ≡ behind_findings third_word (header_findings spelling.middle spelling.middle_count slot user_header)
      → after ≡ behind_findings header (payload_findings spelling.payload spelling.payload_count slot values)
      → slot ≡ slot_in first message.slot → elements ≡ message.elements → user_header ≡ (message.sequence, message.user_header) → values
      ≡ message.values
      → after ≡ behind_findings m (message_findings spelling first port message)
  message_behind message m first_word second_word third_word header after slot elements user_header values one two three headed laid at
      many own said =
      behind_one m first_word after _ _ one
      (behind_one first_word second_word after _ _ two
      (behind_one second_word third_word after _ _ three (behind_lists third_word header after _ _ headed laid)))
      ∙ ap (λ n. behind_findings m (words_findings spelling n port.owner.node_id port.number elements user_header values)) at
      ∙ ap (λ n. behind_findings m (words_findings spelling (slot_in first message.slot)
      port.owner.node_id port.number n user_header values)) many
      ∙ ap (λ u. behind_findings m (words_findings spelling (slot_in first message.slot)
      port.owner.node_id port.number message.elements u values)) own
      ∙ ap (λ vs. behind_findings m (words_findings spelling (slot_in first message.slot)
      port.owner.node_id port.number message.elements (message.sequence, message.user_header) vs)) said

  -- one message more of a list, of each of which its words are found and one thing more
  pub next_message : (last : ℕ → Found) (messages : List (Message T U)) (at slot in_lanes : ℕ) (m now worded after : World)
      → slice_get (map (λ message. message.slot) messages) at ≡ Some slot
      → now ≡ behind_findings m (flat_map
      (λ message. message_findings spelling first port message ++ last (slot_in first message.slot) ∷ []) (take at messages))
      → ((message : Message T U) → slice_get messages at ≡ Some message → message.slot ≡ slot
      → worded ≡ behind_findings now (message_findings spelling first port message))
      → in_lanes ≡ slot_in first slot → after ≡ behind_finding worded (last in_lanes)
      → after ≡ behind_findings m (flat_map
      (λ message. message_findings spelling first port message ++ last (slot_in first message.slot) ∷ []) (take (at + 1) messages))
  next_message last messages at slot in_lanes m now worded after there sofar words is behind_it =
      let found = mapped_at (λ (message : Message T U). message.slot) messages at slot there in
      next_of m now after (λ message. message_findings spelling first port message
      ++ last (slot_in first message.slot) ∷ []) messages at found.0 found.1 sofar
      (behind_last now worded after (message_findings spelling first port found.0)
      (last (slot_in first found.0.slot)) (words found.0 found.1 found.2)
      (behind_it ∙ ap (λ n. behind_finding worded (last n)) (is ∙ ap (slot_in first) (sym found.2))))
    where
      mapped_at : {X Y : Type 0} (f : X → Y) (xs : List X) (at : ℕ) (y : Y) → slice_get (map f xs) at ≡ Some y → (x : X)
          × (slice_get xs at ≡ Some x) × (f x ≡ y)
      mapped_at f [] at y is = absurd (cc is)
      mapped_at f (x ∷ xs) zero y is = (x, refl, some_is (f x) y is)
      mapped_at f (x ∷ xs) (suc at) y is = mapped_at f xs at y is
