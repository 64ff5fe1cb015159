-- An exchange of the read position of a ring that overflows keeps the rule, won or lost.
use Rattle.std.proofs.Common.{ℕ, ◌≡◌, ◌+◌, ◌-◌, ◌<◌, ◌≤◌, ◌==◌, Bool, true, false, if◌then◌else◌, max, List, length, length-set, set}
use Rattle.std.proofs.Common.{slice_get, slice_index, Option, None, Some, refl, sym, ◌∙◌, ap, subst, inl, inr, arith}
use Rattle.std.proofs.lemmas.Bool.{eqb-true, eqb-false}
use mathlib.Core.Option.{some}
use lib.ListN.{get_elem?}
use Rattle.atomic_table.proofs.Lists.{at_set}
use Rattle.iox_lanes_parties.specs.LanesBase.Numbers.{number_of, words_of, IsWord}
use Rattle.iox_lanes_parties.specs.LanesBase.declared.words.word.SharedWord.{SharedWord}
use Rattle.iox_lanes_parties.specs.declared.call.Party.{Party}
use Rattle.iox_lanes_parties.specs.declared.call.Party.TheVariants.{Publisher, Subscriber}
use Rattle.iox_lanes_threads_rule.specs.Service.{IsSender, Stores, IsPosition, write_word, read_word}
use Rattle.iox_lanes_threads_rule.specs.Rule.{held, Overflows, Fits}
use Rattle.iox_lanes_threads_rule.specs.Steps.{learned, known_lost, known_exchanged, MoveOn, ExchangesKeep}
use Rattle.iox_lanes_threads_rule.specs.declared.service.Line.{Line}
use Rattle.iox_lanes_threads_rule.specs.declared.service.Service.{Service}
use Rattle.iox_lanes_threads_rule.specs.declared.view.Port.{Port}
use Rattle.iox_lanes_threads_rule.specs.declared.view.PortParty.{PortParty}
use Rattle.iox_lanes_threads_rule.proofs.Held.{word_at, at_same, at_other}
use Rattle.iox_lanes_threads_rule.proofs.Keeping.{Change, kept, is_read, is_write, nobody_stores, one_number}

-- two lines of one connection are one
same_line : (s : Service) (c : ℕ) (line other : Line) → Overflows s c line → Overflows s c other → line ≡ other
same_line s c line other h k = some_is (sym h.found ∙ k.found)
  where
    some_is : Some line ≡ Some other → line ≡ other
    some_is e = cc e

-- the read positions of two connections are two words
same_connection : (c d : ℕ) → read_word c ≡ read_word d → c ≡ d
same_connection c d e = cc e

no_subscriber : (x y : ℕ) → Publisher x ≡ Subscriber y → ⊥
no_subscriber x y e = cc e

no_write : (c d : ℕ) → write_word c ≡ read_word d → ⊥
no_write c d e = cc e

sends_at : (at : Option Line) (line : Line) (x : ℕ) → at ≡ Some line → x ≡ line.publisher → IsSender at (Publisher x)
sends_at None line x e is = absurd (cc e)
sends_at (Some other) line x e is = let same : other ≡ line
    = cc e in ap (λ (n : ℕ). Publisher n) (is ∙ ap (λ (l : Line). l.publisher) (sym same))

no_sender : (at : Option Line) (y : ℕ) → IsSender at (Subscriber y) → ⊥
no_sender None y h = h
no_sender (Some line) y h = no_subscriber line.publisher y (sym h)

pub read_behind : (s : Service) (c : ℕ) → number_of s.sizes (read_word c) - 1 ≡ number_of s.sizes (write_word c)
read_behind s c = omega arith

-- An exchange, by who made it, and whether it was won: what it needs is stated once for what the port knows then.
module _ (s : Service) (words : List ℕ) (ports : List Port) (p : Port) (party : PortParty) (c : ℕ) (line : Line) (x : ℕ)
    (known : List ℕ) (fit : Fits s words ports) (at : get_elem? ports p.number ≡ some p)
    (ring : Overflows s c line) (long : length known ≡ length p.known) (up : held s words (read_word c) ≤ x)
    (top : x ≤ held s words (write_word c))
    (here : held s known (read_word c) ≡ x)
    (mine : (v : SharedWord) → IsWord s.sizes v → Stores s p.name v → (v ≡ read_word c → ⊥) → held s known v ≡ held s p.known v)
    (others : (v : SharedWord) → IsWord s.sizes v → (v ≡ read_word c → ⊥) → (v ≡ write_word c → ⊥) → held s known v ≡ held s p.known v)
    (writes : held s known (write_word c) ≤ held s words (write_word c))
    (left : (number : ℕ) (r : Port) → get_elem? ports number ≡ some r → r.name ≡ Subscriber line.subscriber → (number ≡ p.number → ⊥)
    → (held s r.known (read_word c) ≡ x → ⊥) → x < held s words (write_word c)) where
  abbrev r : ℕ
  r = number_of s.sizes (read_word c)

  abbrev after : List ℕ
  after = set words r x

  there : IsWord s.sizes (read_word c)
  there = is_read s c line ring

  beside : (v : SharedWord) → IsWord s.sizes v → (v ≡ read_word c → ⊥) → held s after v ≡ held s words v
  beside v is off = at_other s words (read_word c) v x there is off

  now : held s after (read_word c) ≡ x
  now = at_same s words (read_word c) x fit.wide there

  exchanged_own : (v : SharedWord) → IsWord s.sizes v → Stores s p.name v → held s known v ≡ held s after v
  exchanged_own v is stores =
      let off : v ≡ read_word c → ⊥ = λ e. nobody_stores s c line p.name ring (subst (Stores s p.name) e stores) in
      mine v is stores off ∙ fit.copied p.number p v at is stores ∙ sym (beside v is off)

  exchanged_seen : (v : SharedWord) → IsWord s.sizes v → IsPosition v → held s known v ≤ held s after v
  exchanged_seen v is position = elim (word_at s words (read_word c) v x fit.wide there is) [
    | inl same ↦ let e : held s known v ≡ x = ap (held s known) same.0 ∙ here in omega (arith, e, same.1)
    | inr other ↦ elim (word_at s words (write_word c) v 0 fit.wide (is_write s c line ring) is) [
      | inl write ↦
          let e : held s known v ≡ held s known (write_word c) = ap (held s known) write.0 in
          let f : held s words v ≡ held s words (write_word c) = ap (held s words) write.0 in
          omega (arith, e, f, writes, other.1)
      | inr neither ↦ omega (arith, others v is other.0 neither.0, fit.grows p.number p v at is position, other.1)
    ]
  ]

  exchange_change : Change s words p known (read_word c) x
  exchange_change = record {
    word = there;
    wide = long;
    grows = λ position. up;
    cell = λ cell some_slot. absurd cell;
    others = λ name stores other. absurd (nobody_stores s c line name ring stores);
    own = exchanged_own;
    seen = exchanged_seen;
  }

  write_stays : (d : ℕ) (other : Line) → Overflows s d other → held s after (write_word d) ≡ held s words (write_word d)
  write_stays d other h = beside (write_word d) (is_write s d other h) (no_write d c)

  exchange_shared : (d : ℕ) (other : Line) → Overflows s d other → held s after (read_word d) ≤ held s after (write_word d)
  exchange_shared d other h = elim (word_at s words (read_word c) (read_word d) x fit.wide there (is_read s d other h)) [
    | inl same ↦
        let e : held s words (write_word d) ≡ held s words (write_word c)
        = ap (λ (n : ℕ). held s words (write_word n)) (same_connection d c same.0) in
        omega (arith, same.1, write_stays d other h, e, top)
    | inr elsewhere ↦ omega (arith, elsewhere.1, write_stays d other h, fit.shared d other h)
  ]

  exchange_moved : (d : ℕ) (other : Line) (number : ℕ) (q : Port) → Overflows s d other
      → get_elem? (set ports p.number (learned p known party)) number ≡ some q → q.name ≡ Subscriber other.subscriber
      → (held s q.known (read_word d) ≡ held s after (read_word d) → ⊥) → held s after (read_word d) < held s after (write_word d)
  exchange_moved d other number q h got name off
      = elim (word_at s words (read_word c) (read_word d) x fit.wide there (is_read s d other h)) [
        | inl same ↦
            let e : held s words (write_word d) ≡ held s words (write_word c)
            = ap (λ (n : ℕ). held s words (write_word n)) (same_connection d c same.0) in
            let whose : line ≡ other
            = same_line s c line other ring (subst (λ (n : ℕ). Overflows s n other) (same_connection d c same.0) h) in
            let unknown : held s q.known (read_word c) ≡ x → ⊥ = λ f. off (ap (held s q.known) same.0 ∙ f ∙ sym same.1) in
            let less : x < held s words (write_word c) = elim (at_set ports p.number number (learned p known party) q got) [
              | inl me ↦ absurd (unknown (ap (λ (z : Port). held s z.known (read_word c)) (sym me.1) ∙ here))
              | inr old ↦ left number q old.1 (name ∙ ap (λ (l : Line). Subscriber l.subscriber) (sym whose)) old.0 unknown
            ] in
            omega (arith, less, same.1, e, write_stays d other h)
        | inr elsewhere ↦
            let less : held s words (read_word d) < held s words (write_word d)
            = elim (at_set ports p.number number (learned p known party) q got) [
              | inl me ↦ fit.moved d other p.number p h at (ap (λ (z : Port). z.name) me.1 ∙ name)
                  (λ f. off (ap (λ (z : Port). held s z.known (read_word d)) (sym me.1) ∙ others (read_word d) (is_read s d other h)
                  elsewhere.0 (λ g. no_write c d (sym g)) ∙ f ∙ sym elsewhere.1))
              | inr old ↦ fit.moved d other number q h old.1 name (λ f. off (f ∙ sym elsewhere.1))
            ] in
            omega (arith, less, elsewhere.1, write_stays d other h)
      ]

  pub exchange_fits : Fits s after (set ports p.number (learned p known party))
  exchange_fits = kept s words ports p p.seen known party (read_word c) x fit at exchange_change exchange_shared exchange_moved

module _ (s : Service) (words : List ℕ) (ports : List Port) (p : Port) (party : PortParty) (c : ℕ) (line : Line) (old new : ℕ)
    (fit : Fits s words ports) (at : get_elem? ports p.number ≡ some p)
    (ring : Overflows s c line) (rises : old ≤ new) (below : new ≤ held s p.known (write_word c)) where
  abbrev i : ℕ
  i = number_of s.sizes (read_word c)

  abbrev found : ℕ
  found = held s words (read_word c)

  known_wide : length p.known ≡ words_of s.sizes
  known_wide = (fit.ports p.number p at).wide

  is : IsWord s.sizes (read_word c)
  is = is_read s c line ring

  known_write : held s p.known (write_word c) ≤ held s words (write_word c)
  known_write = fit.grows p.number p (write_word c) at (is_write s c line ring) tt

  set_here : (y : ℕ) → held s (set p.known i y) (read_word c) ≡ y
  set_here y = at_same s p.known (read_word c) y known_wide is

  set_beside : (y : ℕ) (v : SharedWord) → IsWord s.sizes v → (v ≡ read_word c → ⊥) → held s (set p.known i y) v ≡ held s p.known v
  set_beside y v is_v off = at_other s p.known (read_word c) v y is is_v off

  set_write : (y : ℕ) → held s (set p.known i y) (write_word c) ≡ held s p.known (write_word c)
  set_write y = set_beside y (write_word c) (is_write s c line ring) (no_write c c)

  -- won: the position moves on
  won : found ≡ old → MoveOn s p line c old new p.name → Fits s (set words i new) (set ports p.number (learned p (set p.known i new) party))
  won same end = exchange_fits s words ports p party c line new (set p.known i new) fit at ring (length-set p.known i new)
      (omega (arith, same, rises)) (omega (arith, below, known_write)) (set_here new)
      (λ v is_v stores off. set_beside new v is_v off) (λ v is_v off other. set_beside new v is_v off)
      (omega (arith, set_write new, known_write)) (left p.name refl end)
    where
      left : (name : Party) → p.name ≡ name → MoveOn s p line c old new name
          → (number : ℕ) (r : Port) → get_elem? ports number ≡ some r → r.name ≡ Subscriber line.subscriber → (number ≡ p.number → ⊥)
          → (held s r.known (read_word c) ≡ new → ⊥) → new < held s words (write_word c)
      left (Publisher place) e h number r got name off unknown = omega (arith, h.1, known_write)
      left (Subscriber place) e h number r got name off unknown =
          absurd (off (one_number s number p.number r p (fit.ports number r got) (fit.ports p.number p at)
          (name ∙ ap (λ (n : ℕ). Subscriber n) (sym h.0) ∙ sym e)))

  -- lost: the position stays, and a subscriber knows that something waits
  lost : (found ≡ old → ⊥) → (name : Party) → p.name ≡ name → MoveOn s p line c old new name
      → Fits s (set words i found) (set ports p.number (learned p (known_lost name p.known i found) party))
  lost differs (Publisher place) e end =
      exchange_fits s words ports p party c line found (set p.known i found) fit at ring (length-set p.known i found) (omega arith)
      (fit.shared c line ring) (set_here found)
      (λ v is_v stores off. set_beside found v is_v off) (λ v is_v off other. set_beside found v is_v off)
      (omega (arith, set_write found, known_write))
      (λ number r got name off unknown. fit.moved c line number r ring got name unknown)
  lost differs (Subscriber place) e end =
      let known : List ℕ = set p.known i found in
      let h : ℕ = number_of s.sizes (write_word c) in
      let y : ℕ = max (slice_index p.known h) (found + 1) in
      let long : length known ≡ words_of s.sizes = length-set p.known i found ∙ known_wide in
      let write : IsWord s.sizes (write_word c) = is_write s c line ring in
      let raised : held s (set known h y) (write_word c) ≡ y = at_same s known (write_word c) y long write in
      let more : found < held s words (write_word c)
      = fit.moved c line p.number p ring at (e ∙ ap (λ (n : ℕ). Subscriber n) end.0) (λ f. differs (sym f ∙ sym end.1)) in
      subst (λ (n : ℕ). Fits s (set words i found)
      (set ports p.number (learned p (set known n (max (slice_index p.known n) (found + 1))) party))) (sym (read_behind s c))
      (exchange_fits s words ports p party c line found (set known h y) fit at ring (length-set known h y ∙ length-set p.known i found)
      (omega arith) (fit.shared c line ring)
      (at_other s known (write_word c) (read_word c) y write is (λ f. no_write c c (sym f)) ∙ set_here found)
      (λ v is_v stores off. at_other s known (write_word c) v y write is_v
      (λ f. no_sender (slice_get s.lines c) place
      (subst (λ (n : Party). Stores s n (write_word c)) e (subst (Stores s p.name) f stores))) ∙ set_beside found v is_v off)
      (λ v is_v off other. at_other s known (write_word c) v y write is_v other ∙ set_beside found v is_v off)
      (omega (arith, raised, more, known_write))
      (λ number r got name off unknown. fit.moved c line number r ring got name unknown))

  by_test : (b : Bool) → (found == old) ≡ b → MoveOn s p line c old new p.name
      → Fits s (set words i (if b then new else found))
      (set ports p.number (learned p (if b then set p.known i new else known_lost p.name p.known i found) party))
  by_test true e end = won (eqb-true found old e) end
  by_test false e end = lost (eqb-false found old e) p.name refl end

  pub swapped : MoveOn s p line c old new p.name
      → Fits s (set words i (if found == old then new else found))
      (set ports p.number (learned p (known_exchanged p.name p.known i old new found) party))
  swapped end = by_test (found == old) refl end

-- at the word that the exchange names
at_word : (s : Service) (words : List ℕ) (ports : List Port) (p : Port) (w : SharedWord) (old new : ℕ) (party : PortParty) (c : ℕ)
    → w ≡ read_word c
    → Fits s (set words (number_of s.sizes (read_word c)) (if held s words (read_word c) == old then new else held s words (read_word c)))
    (set ports p.number (learned p (known_exchanged p.name p.known (number_of s.sizes (read_word c)) old new
    (held s words (read_word c))) party))
    → Fits s (set words (number_of s.sizes w) (if held s words w == old then new else held s words w))
    (set ports p.number (learned p (known_exchanged p.name p.known (number_of s.sizes w) old new (held s words w)) party))
at_word s words ports p w old new party c e h =
    subst (λ (v : SharedWord). Fits s (set words (number_of s.sizes v) (if held s words v == old then new else held s words v))
    (set ports p.number (learned p (known_exchanged p.name p.known (number_of s.sizes v) old new (held s words v)) party))) (sym e) h

pub exchanges : ExchangesKeep
exchanges s words ports p w old new party fit at may = (
  subst (λ (v : SharedWord). held s p.known v ≤ held s words v) (sym may.word)
      (fit.grows p.number p (read_word may.connection) at (is_read s may.connection may.line may.ring) tt),
  at_word s words ports p w old new party may.connection may.word
      (swapped s words ports p party may.connection may.line old new fit at may.ring may.rises may.below may.end),
)
