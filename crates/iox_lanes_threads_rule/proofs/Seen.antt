-- What a port has loaded of its samples.
use Rattle.std.proofs.Common.{ℕ, ◌≡◌, ◌==◌, Bool, true, false, if◌then◌else◌, List, [], ◌∷◌, ◌++◌, set, slice_index}
use Rattle.std.proofs.Common.{refl, sym}
use Rattle.std.proofs.Common.{◌∙◌, subst, max, ◌+◌}
use Rattle.std.specs.List.{All}
use Rattle.std.proofs.lemmas.List.Elements.{All-nil, All-cons, All-head, All-tail}
use Rattle.iox_lanes_machine.specs.LanesBase.Numbers.{number_of, IsWord}
use Rattle.iox_lanes_machine.specs.LanesBase.declared.words.word.SharedWord.{SharedWord}
use Rattle.iox_lanes_machine.specs.LanesBase.declared.words.word.SharedWord.TheVariants.{Ring, Slot}
use Rattle.iox_lanes_machine.specs.LanesBase.declared.words.word.SlotWord.{SlotWord}
use Rattle.iox_lanes_machine.specs.LanesParties.declared.call.Party.{Party}
use Rattle.iox_lanes_machine.specs.LanesParties.declared.call.Party.TheVariants.{Publisher, Subscriber}
use Rattle.iox_lanes_machine.proofs.LanesParties.Rings.{all_at}
use Rattle.iox_lanes_threads_rule.specs.Lanes.{IsSeen}
use Rattle.iox_lanes_threads_rule.specs.Rule.{held, Overflows}
use Rattle.iox_lanes_threads_rule.specs.Service.{write_word, read_word}
use Rattle.iox_lanes_threads_rule.specs.Slots.{IsSampleOf, SeenWordsStand}
use Rattle.iox_lanes_threads_rule.specs.Steps.{is_of_sample, of_samples, known_lost, known_exchanged}
use Rattle.iox_lanes_threads_rule.specs.declared.service.Line.{Line}
use Rattle.iox_lanes_threads_rule.specs.declared.service.Service.{Service}
use Rattle.iox_lanes_threads_rule.specs.declared.view.PortParty.{PortParty}
use Rattle.iox_lanes_threads_rule.specs.declared.view.PortParty.TheVariants as party
use Rattle.iox_lanes_threads_rule.proofs.Exchanging.{read_behind}
use Rattle.iox_lanes_threads_rule.proofs.Held.{at_other}
use Rattle.iox_lanes_threads_rule.proofs.Keeping.{is_read, is_write}

-- a word of a sample is one of a slot
pub sample_slot : (own : PortParty) (w : SharedWord) → is_of_sample own w ≡ true → (slot : ℕ) × (word : SlotWord) × (w ≡ Slot slot word)
    × IsSampleOf own slot
sample_slot (party.Publisher lane) w h = absurd (cc h)
sample_slot (party.Subscriber lane) (Ring connection ring word) h = absurd (cc h)
sample_slot (party.Subscriber lane) (Slot slot word) h = (slot, word, refl, h)

-- what holds of some words holds of those that are of samples
pub samples_kept : (P : SharedWord → Type 0) (own : PortParty) (ws : List SharedWord) → All P ws
    → All (λ w. P w × (is_of_sample own w ≡ true)) (of_samples own ws)
samples_kept P own [] h = All-nil (λ w. P w × (is_of_sample own w ≡ true))
samples_kept P own (w ∷ ws) h = by_test (is_of_sample own w) refl (samples_kept P own ws (All-tail P w ws h))
  where
    by_test : (b : Bool) → is_of_sample own w ≡ b → All (λ v. P v × (is_of_sample own v ≡ true)) (of_samples own ws)
        → All (λ v. P v × (is_of_sample own v ≡ true)) ((if b then w ∷ [] else []) ++ of_samples own ws)
    by_test true e rest = All-cons (λ v. P v × (is_of_sample own v ≡ true)) w (of_samples own ws) (All-head P w ws h, e) rest
    by_test false e rest = rest

-- an exchange leaves what is known of words of slots
pub exchanged_else : (s : Service) (name : Party) (known : List ℕ) (c : ℕ) (line : Line) (old new found slot : ℕ) (word : SlotWord)
    → Overflows s c line → IsWord s.sizes (Slot slot word)
    → held s (known_exchanged name known (number_of s.sizes (read_word c)) old new found) (Slot slot word)
    ≡ held s known (Slot slot word)
exchanged_else s name known c line old new found slot word ring is = by_test (found == old) name
  where
    off_read : Slot slot word ≡ read_word c → ⊥
    off_read e = cc e

    off_write : Slot slot word ≡ write_word c → ⊥
    off_write e = cc e

    at_read : (x : ℕ) → held s (set known (number_of s.sizes (read_word c)) x) (Slot slot word) ≡ held s known (Slot slot word)
    at_read x = at_other s known (read_word c) (Slot slot word) x (is_read s c line ring) is off_read

    lost : (who : Party) → held s (known_lost who known (number_of s.sizes (read_word c)) found) (Slot slot word)
        ≡ held s known (Slot slot word)
    lost (Publisher place) = at_read found
    lost (Subscriber place) =
        let xs : List ℕ = set known (number_of s.sizes (read_word c)) found in
        subst (λ (n : ℕ). held s (set xs n (max (slice_index known n) (found + 1))) (Slot slot word) ≡ held s known (Slot slot word))
        (sym (read_behind s c))
        (at_other s xs (write_word c) (Slot slot word) (max (slice_index known (number_of s.sizes (write_word c))) (found + 1))
        (is_write s c line ring) is off_write ∙ at_read found)

    by_test : (b : Bool) (who : Party) → held s (if b then set known (number_of s.sizes (read_word c)) new
        else known_lost who known (number_of s.sizes (read_word c)) found) (Slot slot word) ≡ held s known (Slot slot word)
    by_test true who = at_read new
    by_test false who = lost who

pub seen_words_stand : SeenWordsStand
seen_words_stand s words ports at number place q p w fit back early there seen =
    let is : IsSeen s words q w = all_at (IsSeen s words q) q.seen place w seen ((back early).seen at q there) in
    (sym is.known, (λ here stores. is.known ∙ sym (fit.copied number p w here is.word stores)))
