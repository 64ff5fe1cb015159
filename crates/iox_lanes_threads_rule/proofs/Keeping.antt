-- Loads and stores keep the rule.
use Rattle.std.proofs.Common.{ℕ, ◌≡◌, ◌<◌, ◌≤◌, ◌^◌, List, ◌∷◌, length, length-set, set, slice_get, Option, None, Some, refl, sym, ◌∙◌, ap}
use Rattle.std.proofs.Common.{subst, inl, inr, arith}
use Rattle.std.proofs.lemmas.List.{get_or-set_other}
use mathlib.Core.Option.{some}
use lib.ListN.{get_elem?}
use Rattle.atomic_table.proofs.Lists.{at_set}
use Rattle.iox_lanes_parties.specs.QueuesSteps.declared.rings.ends.RingKind.{RingKind}
use Rattle.iox_lanes_parties.specs.QueuesSteps.declared.rings.ends.RingKind.TheVariants.{Overflowing}
use Rattle.iox_lanes_parties.specs.LanesBase.Numbers.{number_of, words_of, IsWord}
use Rattle.iox_lanes_parties.specs.LanesBase.declared.words.word.SharedWord.{SharedWord}
use Rattle.iox_lanes_parties.proofs.LanesBase.Numbering.{within}
use Rattle.iox_lanes_parties.specs.declared.call.Party.{Party}
use Rattle.iox_lanes_parties.specs.declared.call.Party.TheVariants.{Subscriber}
use Rattle.iox_lanes_threads_rule.specs.Service.{number_among, Refuses, IsLoneReader, Stores, IsPosition, IsCell, write_word, read_word}
use Rattle.iox_lanes_threads_rule.specs.Rule.{held, IsPort, Overflows, Fits}
use Rattle.iox_lanes_threads_rule.specs.Steps.{saw, learned, Told, MayStore, LoadsKeep, StoresKeep}
use Rattle.iox_lanes_threads_rule.specs.declared.service.Line.{Line}
use Rattle.iox_lanes_threads_rule.specs.declared.service.Service.{Service}
use Rattle.iox_lanes_threads_rule.specs.declared.view.Port.{Port}
use Rattle.iox_lanes_threads_rule.specs.declared.view.PortParty.{PortParty}
use Rattle.iox_lanes_threads_rule.proofs.Held.{word_at, at_same, at_other, at_kept, one_writer}

-- a port that learned something is at its number still
pub same_port : (s : Service) (p : Port) (seen : List SharedWord) (known : List ℕ) (party : PortParty) → IsPort s p.number p
    → length known ≡ length p.known → IsPort s p.number (learned (record p { seen = seen }) known party)
same_port s p seen known party k e = record { service = k.service; number = refl; name = k.name; wide = e ∙ k.wide }

-- What a step changes: one word, what its port knows. It lowers no position, puts the number of a slot into a cell, and stores
-- into no other port's word; and its port knows of the words what it must.
pub record Change (s : Service) (words : List ℕ) (p : Port) (known : List ℕ) (w : SharedWord) (x : ℕ) : Type 0 where
  pub word : IsWord s.sizes w
  pub wide : length known ≡ length p.known
  pub grows : IsPosition w → held s words w ≤ x
  pub cell : IsCell w → 0 < s.sizes.slots → x < s.sizes.slots
  pub others : (name : Party) → Stores s name w → (name ≡ p.name → ⊥) → x ≡ held s words w
  pub own : (v : SharedWord) → IsWord s.sizes v → Stores s p.name v → held s known v ≡ held s (set words (number_of s.sizes w) x) v
  pub seen : (v : SharedWord) → IsWord s.sizes v → IsPosition v → held s known v ≤ held s (set words (number_of s.sizes w) x) v

-- two ports of one name are one
pub one_number : (s : Service) (n m : ℕ) (p q : Port) → IsPort s n p → IsPort s m q → p.name ≡ q.name → n ≡ m
one_number s n m p q k l e = sym k.name ∙ ap (number_among s) e ∙ l.name

module _ (s : Service) (words : List ℕ) (ports : List Port) (p : Port) (seen : List SharedWord) (known : List ℕ) (party : PortParty)
    (w : SharedWord) (x : ℕ) (fit : Fits s words ports) (at : get_elem? ports p.number ≡ some p)
    (change : Change s words p known w x) where
  abbrev after : List ℕ
  after = set words (number_of s.sizes w) x

  abbrev new : Port
  new = learned (record p { seen = seen }) known party

  mine : IsPort s p.number p
  mine = fit.ports p.number p at

  is_port : (n : ℕ) (r : Port) → get_elem? (set ports p.number new) n ≡ some r → IsPort s n r
  is_port n r got = elim (at_set ports p.number n new r got) [
    | inl here ↦ subst (λ (z : ℕ × Port). IsPort s z.0 z.1) (λ i. (sym here.0 i, here.1 i))
        (same_port s p seen known party mine change.wide)
    | inr there ↦ fit.ports n r there.1
  ]

  other_name : (n : ℕ) (r : Port) → get_elem? ports n ≡ some r → (n ≡ p.number → ⊥) → r.name ≡ p.name → ⊥
  other_name n r got off e = off (one_number s n p.number r p (fit.ports n r got) mine e)

  copied : (n : ℕ) (r : Port) (v : SharedWord) → get_elem? (set ports p.number new) n ≡ some r → IsWord s.sizes v → Stores s r.name v
      → held s r.known v ≡ held s after v
  copied n r v got is stores = elim (at_set ports p.number n new r got) [
    | inl here ↦ subst (λ (z : Port). held s z.known v ≡ held s after v) here.1
        (change.own v is (subst (λ (z : Port). Stores s z.name v) (sym here.1) stores))
    | inr there ↦ elim (word_at s words w v x fit.wide change.word is) [
      | inl same ↦ fit.copied n r v there.1 is stores ∙ ap (held s words) same.0
          ∙ sym (change.others r.name (subst (λ (u : SharedWord). Stores s r.name u) same.0 stores) (other_name n r there.1 there.0)) ∙
          sym same.1
      | inr other ↦ fit.copied n r v there.1 is stores ∙ sym other.1
    ]
  ]

  grows : (n : ℕ) (r : Port) (v : SharedWord) → get_elem? (set ports p.number new) n ≡ some r → IsWord s.sizes v → IsPosition v
      → held s r.known v ≤ held s after v
  grows n r v got is position = elim (at_set ports p.number n new r got) [
    | inl here ↦ subst (λ (z : Port). held s z.known v ≤ held s after v) here.1 (change.seen v is position)
    | inr there ↦ elim (word_at s words w v x fit.wide change.word is) [
      | inl same ↦
          let more : held s words v ≤ x = subst (λ (u : SharedWord). held s words u ≤ x) (sym same.0)
          (change.grows (subst IsPosition same.0 position)) in
          omega (arith, fit.grows n r v there.1 is position, more, same.1)
      | inr other ↦ omega (arith, fit.grows n r v there.1 is position, other.1)
    ]
  ]

  cells : (v : SharedWord) → IsWord s.sizes v → IsCell v → 0 < s.sizes.slots → held s after v < s.sizes.slots
  cells v is cell some_slot = elim (word_at s words w v x fit.wide change.word is) [
    | inl same ↦ let less : x < s.sizes.slots = change.cell (subst IsCell same.0 cell) some_slot in omega (arith, less, same.1)
    | inr other ↦ omega (arith, fit.cells v is cell some_slot, other.1)
  ]

  -- the rule holds after a change, if it does of the rings that overflow
  pub kept : ((connection : ℕ) (line : Line) → Overflows s connection line
      → held s after (read_word connection) ≤ held s after (write_word connection))
      → ((connection : ℕ) (line : Line) (number : ℕ) (r : Port) → Overflows s connection line
      → get_elem? (set ports p.number new) number ≡ some r → r.name ≡ Subscriber line.subscriber
      → (held s r.known (read_word connection) ≡ held s after (read_word connection) → ⊥)
      → held s after (read_word connection) < held s after (write_word connection))
      → Fits s after (set ports p.number new)
  kept shared moved = record {
    rows = fit.rows;
    spare = get_or-set_other words (number_of s.sizes w) 0 x 0 (λ e. absurd (omega (arith, e, (within s.sizes w change.word).0))) ∙
        fit.spare;
    wide = length-set words (number_of s.sizes w) x ∙ fit.wide;
    ports = is_port;
    copied = copied;
    grows = grows;
    cells = cells;
    shared = shared;
    moved = moved;
  }

-- the words of a connection's ring are those of the service
pub is_read : (s : Service) (connection : ℕ) (line : Line) → Overflows s connection line → IsWord s.sizes (read_word connection)
is_read s connection line ring = (ring.there, tt)

pub is_write : (s : Service) (connection : ℕ) (line : Line) → Overflows s connection line → IsWord s.sizes (write_word connection)
is_write s connection line ring = (ring.there, tt)

overflowing_refuses : (k : RingKind) → k ≡ Overflowing → Refuses k → ⊥
overflowing_refuses k e h = subst Refuses e h

lone_reader : (at : Option Line) (line : Line) (name : Party) → at ≡ Some line → line.kind ≡ Overflowing → IsLoneReader at name → ⊥
lone_reader None line name e kind h = h
lone_reader (Some other) line name e kind h = overflowing_refuses other.kind (ap (λ (l : Line). l.kind) (same e) ∙ kind) h.0
  where
    same : Some other ≡ Some line → other ≡ line
    same f = cc f

-- no port alone moves the read position of a ring that overflows
pub nobody_stores : (s : Service) (connection : ℕ) (line : Line) (name : Party) → Overflows s connection line
    → Stores s name (read_word connection) → ⊥
nobody_stores s connection line name ring h = lone_reader (slice_get s.lines connection) line name ring.found ring.kind h

pub told : (s : Service) (words : List ℕ) (ports : List Port) (p : Port) (w : SharedWord) → Fits s words ports
    → get_elem? ports p.number ≡ some p → IsWord s.sizes w → held s words w < 2 ^ 64 → Told s p w (held s words w)
told s words ports p w fit at is small = record {
  small = small;
  own = λ stores. fit.copied p.number p w at is stores;
  grows = λ position. fit.grows p.number p w at is position;
  cell = λ cell some_slot. fit.cells w is cell some_slot;
  above = λ connection line ring e.
      let below : held s p.known (read_word connection) ≤ held s words (read_word connection)
      = fit.grows p.number p (read_word connection) at (is_read s connection line ring) tt in
      let same : held s words w ≡ held s words (write_word connection) = ap (held s words) e in
      omega (arith, below, fit.shared connection line ring, same);
}

module _ (s : Service) (words : List ℕ) (ports : List Port) (p : Port) (party : PortParty) (w : SharedWord) (fit : Fits s words ports)
    (at : get_elem? ports p.number ≡ some p)
    (is : IsWord s.sizes w) where
  abbrev i : ℕ
  i = number_of s.sizes w

  abbrev found : ℕ
  found = held s words w

  wide : length p.known ≡ words_of s.sizes
  wide = (fit.ports p.number p at).wide

  stay : (v : SharedWord) → IsWord s.sizes v → held s (set words i found) v ≡ held s words v
  stay v there = at_kept s words w v fit.wide is there

  loaded_own : (v : SharedWord) → IsWord s.sizes v → Stores s p.name v → held s (set p.known i found) v ≡ held s (set words i found) v
  loaded_own v there stores = elim (word_at s p.known w v found wide is there) [
    | inl same ↦ same.1 ∙ sym (ap (held s words) same.0) ∙ sym (stay v there)
    | inr other ↦ other.1 ∙ fit.copied p.number p v at there stores ∙ sym (stay v there)
  ]

  loaded_seen : (v : SharedWord) → IsWord s.sizes v → IsPosition v → held s (set p.known i found) v ≤ held s (set words i found) v
  loaded_seen v there position = elim (word_at s p.known w v found wide is there) [
    | inl same ↦ let e : held s words v ≡ found = ap (held s words) same.0 in omega (arith, same.1, e, stay v there)
    | inr other ↦ omega (arith, other.1, fit.grows p.number p v at there position, stay v there)
  ]

  load_change : Change s words p (set p.known i found) w found
  load_change = record {
    word = is;
    wide = length-set p.known i found;
    grows = λ position. omega arith;
    cell = λ cell some_slot. fit.cells w is cell some_slot;
    others = λ name stores other. refl;
    own = loaded_own;
    seen = loaded_seen;
  }

  load_shared : (connection : ℕ) (line : Line) → Overflows s connection line
      → held s (set words i found) (read_word connection) ≤ held s (set words i found) (write_word connection)
  load_shared connection line ring =
      omega (
        arith,
        stay (read_word connection) (is_read s connection line ring),
        stay (write_word connection)
            (is_write s connection line ring),
        fit.shared connection line ring,
      )

  -- the words are as they were, and the port knows the read position if it knew it before
  load_moved : (connection : ℕ) (line : Line) (number : ℕ) (r : Port) → Overflows s connection line
      → get_elem? (set ports p.number (learned (saw p w) (set p.known i found) party)) number ≡ some r
      → r.name ≡ Subscriber line.subscriber
      → (held s r.known (read_word connection) ≡ held s (set words i found) (read_word connection) → ⊥)
      → held s (set words i found) (read_word connection) < held s (set words i found) (write_word connection)
  load_moved connection line number r ring got name off =
      let there = is_read s connection line ring in
      let less : held s words (read_word connection) < held s words (write_word connection)
      = elim (at_set ports p.number number (learned (saw p w) (set p.known i found) party) r got) [
        | inl here ↦ elim (word_at s p.known w (read_word connection) found wide is there) [
          | inl same ↦ absurd (off (ap (λ (z : Port). held s z.known (read_word connection)) (sym here.1) ∙ same.1 ∙ sym
              (ap (held s words) same.0) ∙ sym (stay (read_word connection) there)))
          | inr other ↦ fit.moved connection line p.number p ring at (ap (λ (z : Port). z.name) here.1 ∙ name)
              (λ e. off (ap (λ (z : Port). held s z.known (read_word connection)) (sym here.1) ∙ other.1 ∙ e ∙ sym
              (stay (read_word connection) there)))
        ]
        | inr old ↦ fit.moved connection line number r ring old.1 name (λ e. off (e ∙ sym (stay (read_word connection) there)))
      ] in
      omega (arith, less, stay (read_word connection) there, stay (write_word connection) (is_write s connection line ring))

  pub load_fits : Fits s (set words i found) (set ports p.number (learned (saw p w) (set p.known i found) party))
  load_fits = kept s words ports p (w ∷ p.seen) (set p.known i found) party w found fit at load_change load_shared load_moved

pub loads : LoadsKeep
loads s words ports p w party fit at is small = (told s words ports p w fit at is small, load_fits s words ports p party w fit at is)

module _ (s : Service) (words : List ℕ) (ports : List Port) (p : Port) (party : PortParty) (w : SharedWord) (x : ℕ)
    (fit : Fits s words ports) (at : get_elem? ports p.number ≡ some p)
    (may : MayStore s p w x) where
  abbrev j : ℕ
  j = number_of s.sizes w

  known_wide : length p.known ≡ words_of s.sizes
  known_wide = (fit.ports p.number p at).wide

  same_own : held s p.known w ≡ held s words w
  same_own = fit.copied p.number p w at may.word may.own

  stored_own : (v : SharedWord) → IsWord s.sizes v → Stores s p.name v → held s (set p.known j x) v ≡ held s (set words j x) v
  stored_own v there stores = elim (word_at s p.known w v x known_wide may.word there) [
    | inl same ↦ same.1 ∙ sym (ap (held s (set words j x)) same.0 ∙ at_same s words w x fit.wide may.word)
    | inr other ↦ other.1 ∙ fit.copied p.number p v at there stores ∙ sym (at_other s words w v x may.word there other.0)
  ]

  stored_seen : (v : SharedWord) → IsWord s.sizes v → IsPosition v → held s (set p.known j x) v ≤ held s (set words j x) v
  stored_seen v there position = elim (word_at s p.known w v x known_wide may.word there) [
    | inl same ↦ let e : held s (set words j x) v ≡ x
        = ap (held s (set words j x)) same.0 ∙ at_same s words w x fit.wide may.word in omega (arith, same.1, e)
    | inr other ↦ omega (arith, other.1, fit.grows p.number p v at there position, at_other s words w v x may.word there other.0)
  ]

  store_change : Change s words p (set p.known j x) w x
  store_change = record {
    word = may.word;
    wide = length-set p.known j x;
    grows = λ position. let up : held s p.known w ≤ x = may.grows position in omega (arith, up, same_own);
    cell = may.cell;
    others = λ name stores other. absurd (other (one_writer s name p.name w fit.rows stores may.own));
    own = stored_own;
    seen = stored_seen;
  }

  -- the word is no read position of a ring that overflows
  no_read : (connection : ℕ) (line : Line) → Overflows s connection line → read_word connection ≡ w → ⊥
  no_read connection line ring e = nobody_stores s connection line p.name ring (subst (Stores s p.name) (sym e) may.own)

  read_stays : (connection : ℕ) (line : Line) → Overflows s connection line
      → held s (set words j x) (read_word connection) ≡ held s words (read_word connection)
  read_stays connection line ring = at_other s words w (read_word connection) x may.word (is_read s connection line ring)
      (no_read connection line ring)

  write_grows : (connection : ℕ) (line : Line) → Overflows s connection line
      → held s words (write_word connection) ≤ held s (set words j x) (write_word connection)
  write_grows connection line ring = elim
      (word_at s words w (write_word connection) x fit.wide may.word (is_write s connection line ring)) [
        | inl same ↦
            let up : held s p.known w ≤ x = may.grows (subst IsPosition same.0 tt) in
            let e : held s words (write_word connection) ≡ held s words w = ap (held s words) same.0 in
            omega (arith, up, same_own, e, same.1)
        | inr other ↦ omega (arith, other.1)
      ]

  store_shared : (connection : ℕ) (line : Line) → Overflows s connection line
      → held s (set words j x) (read_word connection) ≤ held s (set words j x) (write_word connection)
  store_shared connection line ring = omega
      (arith, read_stays connection line ring, write_grows connection line ring, fit.shared connection line ring)

  store_moved : (connection : ℕ) (line : Line) (number : ℕ) (r : Port) → Overflows s connection line
      → get_elem? (set ports p.number (learned p (set p.known j x) party)) number ≡ some r
      → r.name ≡ Subscriber line.subscriber → (held s r.known (read_word connection) ≡ held s (set words j x) (read_word connection) → ⊥)
      → held s (set words j x) (read_word connection) < held s (set words j x) (write_word connection)
  store_moved connection line number r ring got name off =
      let there = is_read s connection line ring in
      let less : held s words (read_word connection) < held s words (write_word connection)
      = elim (at_set ports p.number number (learned p (set p.known j x) party) r got) [
        | inl here ↦ fit.moved connection line p.number p ring at (ap (λ (z : Port). z.name) here.1 ∙ name)
            (λ e. off (ap (λ (z : Port). held s z.known (read_word connection)) (sym here.1) ∙ at_other s p.known w
            (read_word connection) x may.word there (no_read connection line ring) ∙ e ∙ sym (read_stays connection line ring)))
        | inr old ↦ fit.moved connection line number r ring old.1 name (λ e. off (e ∙ sym (read_stays connection line ring)))
      ] in
      omega (arith, less, read_stays connection line ring, write_grows connection line ring)

  pub store_fits : Fits s (set words j x) (set ports p.number (learned p (set p.known j x) party))
  store_fits = kept s words ports p p.seen (set p.known j x) party w x fit at store_change store_shared store_moved

pub stores : StoresKeep
stores s words ports p w new party fit at may = store_fits s words ports p party w new fit at may
