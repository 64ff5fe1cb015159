-- A read gives what its slot held when its message was sent.
use Rattle.std.proofs.Common.{ℕ, zero, suc, ◌≡◌, ◌+◌, ◌-◌, ◌<◌, ◌≤◌, ◌^◌, nat_lt, List, [], ◌∷◌, ◌++◌, length, get_or, refl, sym, ◌∙◌, ap}
use Rattle.std.proofs.Common.{subst, inl, inr, arith}
use Rattle.std.proofs.lemmas.List.{get_or-append-add}
use Rattle.iox_lanes_machine.specs.QueuesSteps.Access.{successor}
use Rattle.iox_lanes_machine.specs.LanesBase.Numbers.{IsWord}
use Rattle.iox_lanes_machine.specs.LanesBase.Table.{held_by}
use Rattle.iox_lanes_machine.specs.LanesBase.declared.words.sizes.TableSizes.{TableSizes}
use Rattle.iox_lanes_machine.specs.LanesBase.declared.words.word.SharedWord.{SharedWord}
use Rattle.iox_lanes_machine.specs.LanesBase.declared.words.word.SharedWord.TheVariants.{Slot}
use Rattle.iox_lanes_machine.specs.LanesBase.declared.words.word.SlotWord.{SlotWord}
use Rattle.iox_lanes_machine.specs.LanesBase.Subscribing.{word_at}
use Rattle.iox_lanes_machine.specs.LanesParties.declared.call.Entry.{Entry}
use Rattle.iox_lanes_machine.specs.LanesParties.Within.{IsPublisher}
use Rattle.iox_lanes_machine.proofs.LanesParties.Rings.{all_at}
use Rattle.iox_lanes_machine.specs.Alone.{IsAtConnection}
use Rattle.iox_lanes_machine.specs.Held.{extent_of, slot_held}
use Rattle.iox_lanes_machine.specs.Kept.{IsKept}
use Rattle.iox_lanes_machine.specs.Made.{listed, start}
use Rattle.iox_lanes_machine.specs.Reads.{width}
use Rattle.iox_lanes_machine.specs.WholeReads.{UsedThrough, ReadsGiveWhatStood, UntouchedThrough, ReadsGiveWhatWasStored}
use Rattle.iox_lanes_machine.specs.World.{World, ends, happens, RunsTo}
use Rattle.iox_lanes_machine.proofs.Connected.{sends_connected}
use Rattle.iox_lanes_machine.proofs.Apart.{steps_apart}
use Rattle.iox_lanes_machine.proofs.FoundKeptWhole.{all_found}
use Rattle.iox_lanes_machine.proofs.Held.{word_is, reads_whole}
use Rattle.iox_lanes_machine.proofs.Start.{listed_get}
use Rattle.iox_lanes_machine.proofs.ReturnSteps.{happens_ends}
use Rattle.iox_lanes_machine.proofs.StartUses.{start_kept}
use Rattle.iox_lanes_machine.proofs.Steps.{happens_moments}
use Rattle.iox_lanes_machine.proofs.SubscriberUses.{of_publisher}
use Rattle.iox_lanes_machine.proofs.Told.{steps_told}
use Rattle.iox_lanes_machine.proofs.Whole.{step_made, step_uses, happens_keeps}

-- a run keeps all that lanes keep
pub run_keeps : (m : World) (entries : List Entry) (made : ℕ) (n : World) → RunsTo m entries made n → IsKept m → IsKept n
run_keeps m [] made n h k = subst IsKept (sym h.1) k
run_keeps m (entry ∷ entries) made n (inl h) k = run_keeps m entries made n h.1 k
run_keeps m (entry ∷ entries) made n (inr (inl h)) k
    = run_keeps (happens m entry.party entry.step) entries (h.1).0 n (h.1).2 (happens_keeps m entry.party entry.step h.0 k)
run_keeps m (entry ∷ entries) made n (inr (inr h)) k = run_keeps m entries made n h.2 k

-- what steps leave of a slot that has a use before each of them
record Through (m n : World) (slot : ℕ) : Type 0 where
  kept : IsKept n
  later : m.moments ≤ n.moments
  sizes : n.table.sizes ≡ m.table.sizes
  held : (word : SlotWord) → IsWord m.table.sizes (Slot slot word) → held_by n.table (Slot slot word) ≡ held_by m.table (Slot slot word)

nothing_done : (m : World) (slot : ℕ) → IsKept m → Through m m slot
nothing_done m slot k = record { kept = k; later = omega arith; sizes = refl; held = λ word is. refl }

up : (n : ℕ) → n < 2 ^ 63 → n ≤ successor n
up n h = omega arith

few_before : (n k : ℕ) → successor n ≤ k → k ≤ 2 ^ 63 → n < 2 ^ 63
few_before n k h g = omega arith

through : (m : World) (slot : ℕ) (entries : List Entry) (n : World) → UsedThrough slot m entries n → n.moments ≤ 2 ^ 63 → IsKept m
    → Through m n slot
through m slot [] n h few k = subst (λ (x : World). Through m x slot) (sym h) (nothing_done m slot k)
through m slot (entry ∷ entries) n (used, inl h) few k = through m slot entries n h.1 few k
through m slot (entry ∷ entries) n (used, inr h) few k =
    let rest = through (happens m entry.party entry.step) slot entries n h.1 few (happens_keeps m entry.party entry.step h.0 k) in
    let next = happens_moments m entry.party entry.step h.0 in
    let bound : m.moments < 2 ^ 63 = few_before m.moments n.moments (omega (arith, next, rest.later)) few in
    let same : (happens m entry.party entry.step).table.sizes ≡ m.table.sizes
    = (happens_ends m entry.party entry.step h.0 k.returns).sizes in
    record {
      kept = rest.kept;
      later = omega (arith, next, rest.later, up m.moments bound);
      sizes = rest.sizes ∙ same;
      held = λ word is. rest.held word (subst (λ (s : TableSizes). IsWord s (Slot slot word)) (sym same) is) ∙ step_uses m entry.party
          entry.step h.0 k (omega (arith, bound)) slot word is used;
    }

listed_same : (f g : ℕ → ℕ) (n : ℕ) → ((k : ℕ) → k < n → f k ≡ g k) → listed f n ≡ listed g n
listed_same f g zero h = refl
listed_same f g (suc n) h = ap (λ (xs : List ℕ). xs ++ f n ∷ []) (listed_same f g n (λ k below. h k (omega (arith, below)))) ∙ ap
    (λ (x : ℕ). listed g n ++ x ∷ []) (h n (omega arith))

-- a slot that stands at a connection is one of the service
slot_there : (m : World) (slot : ℕ) → IsKept m → m.moments ≤ 2 ^ 63 → IsAtConnection m slot → slot < m.table.sizes.slots
slot_there m slot k few used =
    let owner = of_publisher m used.connection used.link used.order used.found used.got (sends_connected m (k.sends few)) (k.uses few)
    slot used.has in
    let is : IsPublisher m.table.sizes owner.lane
    = all_at (IsPublisher m.table.sizes) m.publishers _ owner.lane owner.found (k.within).publishers in
    omega (arith, owner.below, is.slots)

same_words : (m n : World) (slot : ℕ) → Through m n slot → slot < m.table.sizes.slots → slot_held n.table slot ≡ slot_held m.table slot
same_words m n slot h there =
    ap (λ (s : TableSizes). listed (λ word. held_by n.table (Slot slot (word_at (extent_of s) word))) (width s)) h.sizes
    ∙ listed_same (λ word. held_by n.table (Slot slot (word_at (extent_of m.table.sizes) word)))
    (λ word. held_by m.table (Slot slot (word_at (extent_of m.table.sizes) word))) (width m.table.sizes)
    (λ word below. h.held (word_at (extent_of m.table.sizes) word)
    (there, word_is m.table.sizes word (nat_lt word 3) (nat_lt (word - 3) m.table.sizes.user_header_words) refl refl below))

pub reads_give_what_stood : ReadsGiveWhatStood
reads_give_what_stood m came slot entries n used few party step call fit more is =
    let first : IsKept m = run_keeps came.begun came.schedule came.made m came.runs
    (all_found (start came.sizes) came.found came.begun came.finds (start_kept came.sizes came.some came.ports came.small)) in
    let h = through m slot entries n used few first in
    let made = step_made n party step fit (ends n party step) refl in
    let k : IsKept n = h.kept in
    let got = reads_whole n party step made.0 (happens n party step) made.1
    (steps_told n party step made.0 (happens n party step) made.1) k.within k.uses k.reads k.calls k.held few call slot more is in
    let there : slot < m.table.sizes.slots = subst (λ (s : TableSizes). slot < s.slots) h.sizes (slot_there n slot k few got.1) in
    got.0 ∙ ap (λ (ws : List ℕ). n.read ++ ws) (same_words m n slot h there)

-- what steps leave of a word that none of them may change
record Untouched (m n : World) (word : SharedWord) : Type 0 where
  kept : IsKept n
  later : m.moments ≤ n.moments
  sizes : n.table.sizes ≡ m.table.sizes
  held : IsWord m.table.sizes word → held_by n.table word ≡ held_by m.table word

untouched : (m : World) (word : SharedWord) (entries : List Entry) (n : World) → UntouchedThrough word m entries n → n.moments ≤ 2 ^ 63
    → IsKept m → Untouched m n word
untouched m word [] n h few k = subst (λ (x : World). Untouched m x word) (sym h)
    (record { kept = k; later = omega arith; sizes = refl; held = λ is. refl })
untouched m word (entry ∷ entries) n (inl h) few k = untouched m word entries n h.1 few k
untouched m word (entry ∷ entries) n (inr h) few k =
    let rest = untouched (happens m entry.party entry.step) word entries n h.2 few (happens_keeps m entry.party entry.step h.0 k) in
    let next = happens_moments m entry.party entry.step h.0 in
    let bound : m.moments < 2 ^ 63 = few_before m.moments n.moments (omega (arith, next, rest.later)) few in
    let same : (happens m entry.party entry.step).table.sizes ≡ m.table.sizes
    = (happens_ends m entry.party entry.step h.0 k.returns).sizes in
    let made = step_made m entry.party entry.step h.0 (ends m entry.party entry.step) refl in
    let apart = steps_apart m entry.party entry.step made.0 (happens m entry.party entry.step) made.1 k.within in
    record {
      kept = rest.kept;
      later = omega (arith, next, rest.later, up m.moments bound);
      sizes = rest.sizes ∙ same;
      held = λ is. rest.held (subst (λ (s : TableSizes). IsWord s word) (sym same) is) ∙ apart.words word is h.1;
    }

-- a word of a slot, by its place
held_at : (sizes : TableSizes) (n : World) (slot place : ℕ) → n.table.sizes ≡ sizes → place < width sizes
    → get_or (slot_held n.table slot) place 0 ≡ held_by n.table (Slot slot (word_at (extent_of sizes) place))
held_at sizes n slot place e below =
    ap (λ (s : TableSizes). get_or (listed (λ w. held_by n.table (Slot slot (word_at (extent_of s) w))) (width s)) place 0) e
    ∙ listed_get (λ w. held_by n.table (Slot slot (word_at (extent_of sizes) w))) (width sizes) place 0 below

pub reads_give_what_was_stored : ReadsGiveWhatWasStored
reads_give_what_was_stored m came slot place below entries n steps few party step call fit more is =
    let first : IsKept m = run_keeps came.begun came.schedule came.made m came.runs
    (all_found (start came.sizes) came.found came.begun came.finds (start_kept came.sizes came.some came.ports came.small)) in
    let h = untouched m (Slot slot (word_at (extent_of m.table.sizes) place)) entries n steps few first in
    let made = step_made n party step fit (ends n party step) refl in
    let k : IsKept n = h.kept in
    let got = reads_whole n party step made.0 (happens n party step) made.1
    (steps_told n party step made.0 (happens n party step) made.1) k.within k.uses k.reads k.calls k.held few call slot more is in
    let there : slot < m.table.sizes.slots = subst (λ (s : TableSizes). slot < s.slots) h.sizes (slot_there n slot k few got.1) in
    ap (λ (ws : List ℕ). get_or ws (length n.read + place) 0) got.0
    ∙ get_or-append-add n.read (slot_held n.table slot) place 0
    ∙ held_at m.table.sizes n slot place h.sizes below
    ∙ h.held (there, word_is m.table.sizes place (nat_lt place 3) (nat_lt (place - 3) m.table.sizes.user_header_words) refl refl below)
