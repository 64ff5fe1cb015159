-- Lanes that are built of a domain, from what each part of the building says.
use Rattle.std.proofs.Common.{ℕ, ◌≡◌, ◌<◌, ◌≤◌, ◌^◌, List, length, sym, ap, subst, ◌∙◌, arith, Option}
use Rattle.std.proofs.lemmas.List.{length-replicate}
use Rattle.std.proofs.lemmas.Nat.{column_fits}
use Rattle.iox_domain.specs.DomainValues.declared.backpressure.BackpressureDecision.{BackpressureDecision}
use Rattle.iox_domain.specs.declared.domain.Domain.{Domain}
use Rattle.iox_lanes_machine.specs.LanesBase.Numbers.{slot_words, words_of}
use Rattle.iox_lanes_machine.specs.LanesBase.declared.words.sizes.TableSizes.{TableSizes}
use Rattle.iox_lanes_machine.specs.Made.{start, table_sizes}
use Rattle.iox_lanes_machine.specs.World.{World}
use Rattle.iox_lanes_machine.specs.declared.sizes.LaneSizes.{LaneSizes}
use Rattle.iox_lanes.specs.Alone.{KeepAlone}
use Rattle.iox_lanes.specs.Built.{AreBuilt, HaveSlots}
use Rattle.iox_lanes.specs.Finding.{WasFound}
use Rattle.iox_lanes.specs.Laid.{publishers_behind}
use Rattle.iox_lanes.specs.Ordered.{readers_behind}
use Rattle.iox_lanes.specs.Sized.{AreAgreed}
use Rattle.iox_lanes.specs.Spelling.{Spelling}
use Rattle.iox_lanes.proofs.Sizing.{sized_by, table_is}

-- lanes that were made have as many words as their sizes say
pub words_counted : (sizes : LaneSizes) (m : World) (words : List ℕ) (count : ℕ) → m ≡ start sizes → words ≡ m.table.words
    → count ≡ length words → count < 2 ^ 64 → words_of (table_sizes sizes) < 2 ^ 64
words_counted sizes m words count made are long few =
    subst (λ n. n < 2 ^ 64) (long ∙ ap length are ∙ ap (λ (w : World). length w.table.words) made ∙ length-replicate
    (words_of (table_sizes sizes)) 0) few

pub are_built : {T U B D : Type 0} (decision : B → Option BackpressureDecision) (spelling : Spelling T U) (domain : Domain T U B D)
    (publishers subscribers : List ℕ) (sizes last : LaneSizes) (begun laid ordered lanes : World)
    → AreAgreed domain.state.ports.sizes (length publishers) (length subscribers) spelling.payload_count spelling.middle_count sizes
    → WasFound last lanes → last ≡ sizes → HaveSlots domain.state.ports.publishers publishers sizes.slots
    → words_of (table_sizes sizes) < 2 ^ 64 → KeepAlone domain.state.ports publishers subscribers
    → begun ≡ start sizes → laid ≡ publishers_behind decision spelling domain publishers subscribers begun (length publishers)
    → ordered ≡ readers_behind publishers domain.state.ports.subscribers subscribers laid (length subscribers) → lanes ≡ ordered
    → AreBuilt decision spelling domain publishers subscribers lanes
are_built decision spelling domain publishers subscribers sizes last begun laid ordered lanes agreed
    was same room small alone made publishing ordering is =
    let by = sized_by domain.state.ports.sizes (length publishers) (length subscribers) spelling.payload_count spelling.middle_count sizes
    lanes agreed
    (subst (λ (s : LaneSizes). WasFound s lanes) same was) in
    record {
      sized = by.0;
      room = subst (λ (s : LaneSizes). HaveSlots domain.state.ports.publishers publishers s.slots) (sym by.1) room;
      small = subst (λ (s : LaneSizes). words_of (table_sizes s) < 2 ^ 64) (sym by.1) small;
      alone = alone;
      behind = is ∙ ordering
          ∙ ap (λ w. readers_behind publishers domain.state.ports.subscribers subscribers w (length subscribers))
          (publishing ∙ ap (λ w. publishers_behind decision spelling domain publishers subscribers w
          (length publishers)) (made ∙ ap start (sym by.1)));
    }

-- there are fewer slots than words
slots_below : (sizes : TableSizes) → sizes.slots ≤ words_of sizes
slots_below sizes = omega (arith, column_fits sizes.slots 0 sizes.slots (slot_words sizes) (omega arith) (omega arith))

-- so there are fewer slots than memory has room for words
pub few_slots : {T U B D : Type 0} (decision : B → Option BackpressureDecision) (spelling : Spelling T U)
    (domain : Domain T U B D) (publishers subscribers : List ℕ) (lanes : World)
    → AreBuilt decision spelling domain publishers subscribers lanes
    → lanes.table.sizes.slots < 2 ^ 64
few_slots decision spelling domain publishers subscribers lanes built =
    let below : (table_sizes (built.sized).sizes).slots ≤ words_of (table_sizes (built.sized).sizes) =
    slots_below (table_sizes (built.sized).sizes) in
    let same = ap (λ (t : TableSizes). t.slots) (table_is (built.sized).sizes lanes (built.sized).found) in
    omega (arith, below, built.small, same)
