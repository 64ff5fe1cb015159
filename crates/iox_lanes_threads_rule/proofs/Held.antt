-- Lists of words after one of them changed, and which port stores a word.
use Rattle.std.proofs.Common.{ℕ, ◌≡◌, ◌⊎◌, List, length, set, slice_get, slice_index, Option, None, Some, sym, ◌∙◌, ap, inl, inr, arith}
use Rattle.std.proofs.lemmas.Bool.Decides.{eqb_tells}
use Rattle.std.proofs.lemmas.List.{get_or-set_same, get_or-set_other}
use Rattle.std.proofs.lemmas.Bool.{cases_order}
use Rattle.iox_lanes_parties.specs.QueuesSteps.declared.access.Word.TheVariants.{Write, Read, Cell}
use Rattle.iox_lanes_parties.specs.LanesBase.Numbers.{number_of, words_of, IsWord}
use Rattle.iox_lanes_parties.specs.LanesBase.declared.words.word.ConnectionRing.TheVariants.{Submission, Completion}
use Rattle.iox_lanes_parties.specs.LanesBase.declared.words.word.SharedWord.{SharedWord}
use Rattle.iox_lanes_parties.specs.LanesBase.declared.words.word.SharedWord.TheVariants.{Ring, Slot}
use Rattle.iox_lanes_parties.proofs.LanesBase.Numbering.{apart, within}
use Rattle.iox_lanes_parties.specs.declared.call.Party.{Party}
use Rattle.iox_lanes_parties.specs.declared.call.Party.TheVariants.{Publisher, Subscriber}
use Rattle.iox_lanes_threads_rule.specs.Service.{IsSender, IsReceiver, IsLoneReader, HasSlot, Stores, RangesInRows}
use Rattle.iox_lanes_threads_rule.specs.Rule.{held}
use Rattle.iox_lanes_threads_rule.specs.declared.service.Line.{Line}
use Rattle.iox_lanes_threads_rule.specs.declared.service.Service.{Service}

-- after one word changed, a word is that one and holds the new value, or another that holds what it did
pub word_at : (s : Service) (xs : List ℕ) (w v : SharedWord) (x : ℕ) → length xs ≡ words_of s.sizes → IsWord s.sizes w → IsWord s.sizes v
    → ((v ≡ w) × (held s (set xs (number_of s.sizes w) x) v ≡ x))
    ⊎ ((v ≡ w → ⊥) × (held s (set xs (number_of s.sizes w) x) v ≡ held s xs v))
word_at s xs w v x wide is there = elim (eqb_tells (number_of s.sizes v) (number_of s.sizes w)) [
  | inl same ↦ inl (
    apart s.sizes v w there is same.1,
    ap (λ (n : ℕ). slice_index (set xs (number_of s.sizes w) x) n) same.1 ∙
        get_or-set_same xs (number_of s.sizes w) x 0 (omega (arith, (within s.sizes w is).1, wide)),
  )
  | inr other ↦ inr ((λ e. other.1 (ap (number_of s.sizes) e)), get_or-set_other xs (number_of s.sizes w) (number_of s.sizes v) x 0 other.1)
]

pub at_same : (s : Service) (xs : List ℕ) (w : SharedWord) (x : ℕ) → length xs ≡ words_of s.sizes → IsWord s.sizes w
    → held s (set xs (number_of s.sizes w) x) w ≡ x
at_same s xs w x wide is = get_or-set_same xs (number_of s.sizes w) x 0 (omega (arith, (within s.sizes w is).1, wide))

pub at_other : (s : Service) (xs : List ℕ) (w v : SharedWord) (x : ℕ) → IsWord s.sizes w → IsWord s.sizes v → (v ≡ w → ⊥)
    → held s (set xs (number_of s.sizes w) x) v ≡ held s xs v
at_other s xs w v x is there off = get_or-set_other xs (number_of s.sizes w) (number_of s.sizes v) x 0
    (λ e. off (apart s.sizes v w there is e))

-- a word that was set to what it held changed nothing
pub at_kept : (s : Service) (xs : List ℕ) (w v : SharedWord) → length xs ≡ words_of s.sizes → IsWord s.sizes w → IsWord s.sizes v
    → held s (set xs (number_of s.sizes w) (held s xs w)) v ≡ held s xs v
at_kept s xs w v wide is there = elim (word_at s xs w v (held s xs w) wide is there) [
  | inl here ↦ here.1 ∙ ap (held s xs) (sym here.0)
  | inr other ↦ other.1
]

sender_one : (line : Option Line) (a b : Party) → IsSender line a → IsSender line b → a ≡ b
sender_one None a b h k = absurd h
sender_one (Some line) a b h k = h ∙ sym k

receiver_one : (line : Option Line) (a b : Party) → IsReceiver line a → IsReceiver line b → a ≡ b
receiver_one None a b h k = absurd h
receiver_one (Some line) a b h k = h ∙ sym k

reader_one : (line : Option Line) (a b : Party) → IsLoneReader line a → IsLoneReader line b → a ≡ b
reader_one None a b h k = absurd h
reader_one (Some line) a b h k = h.1 ∙ sym k.1

slot_one : (s : Service) (a b : Party) (slot : ℕ) → RangesInRows s → HasSlot s a slot → HasSlot s b slot → a ≡ b
slot_one s (Publisher x) (Publisher y) slot rows h k = ap (λ (n : ℕ). Publisher n) (elim (cases_order x y) [
  | inl same ↦ same
  | inr rest ↦ elim rest [
    | inl less ↦ absurd (omega (arith, rows x y h.0 k.0 h.1 k.1 less, h.3, k.2))
    | inr more ↦ absurd (omega (arith, rows y x k.0 h.0 k.1 h.1 more, k.3, h.2))
  ]
])
slot_one s (Publisher x) (Subscriber y) slot rows h k = absurd k
slot_one s (Subscriber x) b slot rows h k = absurd h

-- a word has one port that stores it
pub one_writer : (s : Service) (a b : Party) (w : SharedWord) → RangesInRows s → Stores s a w → Stores s b w → a ≡ b
one_writer s a b (Ring c Submission Write) rows h k = sender_one (slice_get s.lines c) a b h k
one_writer s a b (Ring c Submission Read) rows h k = reader_one (slice_get s.lines c) a b h k
one_writer s a b (Ring c Submission (Cell cell)) rows h k = sender_one (slice_get s.lines c) a b h k
one_writer s a b (Ring c Completion Write) rows h k = receiver_one (slice_get s.lines c) a b h k
one_writer s a b (Ring c Completion Read) rows h k = sender_one (slice_get s.lines c) a b h k
one_writer s a b (Ring c Completion (Cell cell)) rows h k = receiver_one (slice_get s.lines c) a b h k
one_writer s a b (Slot slot word) rows h k = slot_one s a b slot rows h k
