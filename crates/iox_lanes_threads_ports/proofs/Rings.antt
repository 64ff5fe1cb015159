-- At each stage of a push or a pop the port may make the next access, and it knows what the stage after the answer needs.
use Rattle.std.proofs.Common.{ℕ, ◌≡◌, ◌+◌, ◌-◌, ◌<◌, ◌≤◌, ◌%◌, ◌^◌, ◌==◌, max, Bool, true, false, if◌then◌else◌, nat_lt, List, length}
use Rattle.std.proofs.Common.{length-set, set, slice_index, refl, sym, ◌∙◌, subst, arith}
use Rattle.std.proofs.lemmas.Bool.{ltb-true, eqb-false}
use Rattle.iox_lanes_machine.specs.QueuesSteps.Access.{successor}
use Rattle.iox_lanes_machine.specs.QueuesSteps.declared.access.Word.TheVariants.{Write, Read, Cell}
use Rattle.iox_lanes_machine.specs.QueuesSteps.Overflowing as overflowing
use Rattle.iox_lanes_machine.specs.QueuesSteps.declared.rings.overflowing.push.Push as overflowing_push_type
use Rattle.iox_lanes_machine.specs.QueuesSteps.declared.rings.overflowing.push.Push.TheVariants as overflowing_push
use Rattle.iox_lanes_machine.specs.QueuesSteps.declared.rings.overflowing.pop.Pop as overflowing_pop_type
use Rattle.iox_lanes_machine.specs.QueuesSteps.declared.rings.overflowing.pop.Pop.TheVariants as overflowing_pop
use Rattle.iox_lanes_machine.specs.QueuesSteps.Refusing as refusing
use Rattle.iox_lanes_machine.specs.QueuesSteps.declared.rings.refusing.push.Push as refusing_push_type
use Rattle.iox_lanes_machine.specs.QueuesSteps.declared.rings.refusing.push.Push.TheVariants as refusing_push
use Rattle.iox_lanes_machine.specs.QueuesSteps.declared.rings.refusing.pop.Pop as refusing_pop_type
use Rattle.iox_lanes_machine.specs.QueuesSteps.declared.rings.refusing.pop.Pop.TheVariants as refusing_pop
use Rattle.iox_lanes_machine.specs.LanesBase.Numbers.{number_of, words_of, IsWord}
use Rattle.iox_lanes_machine.specs.LanesBase.Table.{IsOfTable}
use Rattle.iox_lanes_machine.specs.LanesBase.Words.{on_ring}
use Rattle.iox_lanes_machine.specs.LanesBase.declared.words.word.ConnectionRing.{ConnectionRing}
use Rattle.iox_lanes_machine.specs.LanesBase.declared.words.word.ConnectionRing.TheVariants.{Submission}
use Rattle.iox_lanes_machine.specs.LanesBase.declared.words.word.SharedWord.{SharedWord}
use Rattle.iox_lanes_machine.specs.LanesBase.declared.words.word.SharedWord.TheVariants.{Ring}
use Rattle.iox_lanes_machine.specs.QueuesSteps.declared.order.PushAnswer.TheVariants.{Kept, Refused}
use Rattle.iox_lanes_machine.specs.LanesParties.declared.call.Party.{Party}
use Rattle.iox_lanes_machine.specs.LanesParties.declared.call.Party.TheVariants.{Publisher, Subscriber}
use Rattle.iox_lanes_threads_rule.specs.Service.{Stores, read_word, write_word}
use Rattle.iox_lanes_threads_rule.specs.Rule.{held, Overflows}
use Rattle.iox_lanes_threads_rule.specs.Steps.{MoveOn, known_lost, saw, learned}
use Rattle.iox_lanes_threads_rule.specs.Acts.{stepped, MayAct, ToldBy}
use Rattle.iox_lanes_threads_rule.specs.declared.service.Line.{Line}
use Rattle.iox_lanes_threads_rule.specs.declared.view.Port.{Port}
use Rattle.iox_lanes_threads_rule.specs.declared.view.PortParty.{PortParty}
use Rattle.iox_lanes_threads_rule.proofs.Held.{at_same, at_other}
use Rattle.iox_lanes_threads_ports.specs.Ends.{knows, NamesSlot, At, LonePop, LonePush, OverPush, OverPop}

pub rises : (n : ℕ) → n < 2 ^ 64 → n ≤ successor n
rises n h = omega (arith, h)

-- what the port may do on a ring where it alone moves the read position
pub lone_pop_may : (p : Port) (c : ℕ) (ring : ConnectionRing) (cells : ℕ) (pop : refusing_pop_type.Pop)
    → Stores p.service p.name (Ring c ring Read) → LonePop p (Ring c ring Read) pop
    → IsOfTable p.service.sizes (on_ring c ring cells (refusing.pop_next pop)) → MayAct p (on_ring c ring cells (refusing.pop_next pop))
lone_pop_may p c ring cells refusing_pop.Idle mine k is = tt
lone_pop_may p c ring cells refusing_pop.Begun mine k is = is
lone_pop_may p c ring cells (refusing_pop.SawRead seen) mine k is = is
lone_pop_may p c ring cells (refusing_pop.Nonempty seen next) mine k is = is
lone_pop_may p c ring cells (refusing_pop.SawCell next value) mine k is
    = record { word = is; own = mine; grows = λ position. k; cell = λ cell some_slot. absurd cell }
lone_pop_may p c ring cells (refusing_pop.Popped got) mine k is = tt
lone_pop_may p c ring cells refusing_pop.LookBegun mine k is = is
lone_pop_may p c ring cells (refusing_pop.LookRead seen) mine k is = is
lone_pop_may p c ring cells (refusing_pop.Looked some) mine k is = tt

-- and on one that it writes
pub lone_push_may : (p : Port) (c : ℕ) (ring : ConnectionRing) (cells : ℕ) (push : refusing_push_type.Push)
    → Stores p.service p.name (Ring c ring Write)
    → ((k : ℕ) → Stores p.service p.name (Ring c ring (Cell k))) → LonePush p (Ring c ring Write) push
    → IsOfTable p.service.sizes (on_ring c ring cells (refusing.push_next push)) → MayAct p (on_ring c ring cells (refusing.push_next push))
lone_push_may p c ring cells refusing_push.Idle mine all k is = tt
lone_push_may p c ring cells (refusing_push.Begun limit value) mine all k is = is
lone_push_may p c ring cells (refusing_push.SawWrite limit value seen next) mine all k is = is
lone_push_may p c ring cells (refusing_push.SawRoom value seen next) mine all k is
    = record { word = is; own = all (seen % cells); grows = λ position. absurd position; cell = λ cell some_slot. k.0 some_slot }
lone_push_may p c ring cells (refusing_push.Filled value next) mine all k is
    = record { word = is; own = mine; grows = λ position. k; cell = λ cell some_slot. absurd cell }
lone_push_may p c ring cells (refusing_push.Pushed value answer) mine all k is = tt

-- and on a ring that overflows
pub over_push_may : (p : Port) (c : ℕ) (line : Line) (cells : ℕ) (push : overflowing_push_type.Push) → Overflows p.service c line
    → p.name ≡ Publisher line.publisher
    → Stores p.service p.name (write_word c) → ((k : ℕ) → Stores p.service p.name (Ring c Submission (Cell k))) → OverPush p c push
    → IsOfTable p.service.sizes (on_ring c Submission cells (overflowing.push_next push))
    → MayAct p (on_ring c Submission cells (overflowing.push_next push))
over_push_may p c line cells overflowing_push.Idle ring name mine all k is = tt
over_push_may p c line cells (overflowing_push.Begun limit value) ring name mine all k is = is
over_push_may p c line cells (overflowing_push.SawWrite limit value write next) ring name mine all k is = is
over_push_may p c line cells (overflowing_push.SawRead limit value write next read) ring name mine all k is =
    record { word = is; own = all (write % cells); grows = λ position. absurd position; cell = λ cell some_slot. k.1 some_slot }
over_push_may p c line cells (overflowing_push.Filled limit value write next read) ring name mine all k is
    = record { word = is; own = mine; grows = λ position. k.1; cell = λ cell some_slot. absurd cell }
over_push_may p c line cells (overflowing_push.Full value read next) ring name mine all k is = is
over_push_may p c line cells (overflowing_push.SawOldest value read next oldest) ring name mine all k is = record {
  connection = c;
  line = line;
  ring = ring;
  word = refl;
  rises = k.0;
  below = omega (arith, k.1);
  end = subst (MoveOn p.service p line c read next) (sym name) (refl, k.1);
}
over_push_may p c line cells (overflowing_push.Pushed value answer) ring name mine all k is = tt

pub over_pop_may : (p : Port) (c : ℕ) (line : Line) (cells : ℕ) (pop : overflowing_pop_type.Pop) → Overflows p.service c line
    → p.name ≡ Subscriber line.subscriber → OverPop p c pop
    → IsOfTable p.service.sizes (on_ring c Submission cells (overflowing.pop_next pop))
    → MayAct p (on_ring c Submission cells (overflowing.pop_next pop))
over_pop_may p c line cells overflowing_pop.Idle ring name k is = tt
over_pop_may p c line cells overflowing_pop.Begun ring name k is = is
over_pop_may p c line cells (overflowing_pop.SawRead seen) ring name k is = is
over_pop_may p c line cells (overflowing_pop.Nonempty seen next) ring name k is = is
over_pop_may p c line cells (overflowing_pop.SawCell seen next value) ring name k is = record {
  connection = c;
  line = line;
  ring = ring;
  word = refl;
  rises = omega (arith, k.0.1, k.2);
  below = omega (arith, k.1, k.2);
  end = subst (MoveOn p.service p line c seen next) (sym name) (refl, sym k.0.0);
}
over_pop_may p c line cells (overflowing_pop.Popped got) ring name k is = tt
over_pop_may p c line cells overflowing_pop.LookBegun ring name k is = is
over_pop_may p c line cells (overflowing_pop.LookRead seen) ring name k is = is
over_pop_may p c line cells (overflowing_pop.Looked some) ring name k is = tt

-- the words of a ring are not one
read_write : (c : ℕ) (ring : ConnectionRing) → Ring c ring Read ≡ Ring c ring Write → ⊥
read_write c ring e = cc e

read_cell : (c k : ℕ) (ring : ConnectionRing) → Ring c ring Read ≡ Ring c ring (Cell k) → ⊥
read_cell c k ring e = cc e

write_cell : (c k : ℕ) (ring : ConnectionRing) → Ring c ring Write ≡ Ring c ring (Cell k) → ⊥
write_cell c k ring e = cc e

-- a port that knows something new of one word
abbrev Knew : Port → SharedWord → ℕ → PortParty → Port
Knew p w x party = learned p (set p.known (number_of p.service.sizes w) x) party

-- and one that has loaded a word
abbrev Loaded : Port → SharedWord → ℕ → PortParty → Port
Loaded p w x party = learned (saw p w) (set p.known (number_of p.service.sizes w) x) party

module _ (p : Port) (c : ℕ) (ring : ConnectionRing) (cells : ℕ) (after : ℕ → PortParty)
    (wide : length p.known ≡ words_of p.service.sizes) (read : IsWord p.service.sizes (Ring c ring Read))
    (write : IsWord p.service.sizes (Ring c ring Write)) where
  here : (w : SharedWord) (x : ℕ) → IsWord p.service.sizes w → held p.service (set p.known (number_of p.service.sizes w) x) w ≡ x
  here w x is = at_same p.service p.known w x wide is

  beside : (w v : SharedWord) (x : ℕ) → IsWord p.service.sizes w → IsWord p.service.sizes v → (v ≡ w → ⊥)
      → held p.service (set p.known (number_of p.service.sizes w) x) v ≡ knows p v
  beside w v x is there off = at_other p.service p.known w v x is there off

  emptied_goes : (q : Port) (seen : ℕ) (b : Bool) → knows q (Ring c ring Read) ≡ seen → seen < 2 ^ 64
      → LonePop q (Ring c ring Read) (refusing.pop_emptied b seen)
  emptied_goes q seen true e h = tt
  emptied_goes q seen false e h = ((e, h), refl)

  pub lone_pop_goes : (pop : refusing_pop_type.Pop) (answer : ℕ)
      → IsOfTable p.service.sizes (on_ring c ring cells (refusing.pop_next pop)) → LonePop p (Ring c ring Read) pop
      → ToldBy p (on_ring c ring cells (refusing.pop_next pop)) answer
      → LonePop (stepped p (on_ring c ring cells (refusing.pop_next pop)) answer after) (Ring c ring Read)
      (refusing.pop_take pop answer)
  lone_pop_goes refusing_pop.Idle answer is k told = tt
  lone_pop_goes refusing_pop.Begun answer is k told = (here (Ring c ring Read) answer read, told.0.small)
  lone_pop_goes (refusing_pop.SawRead seen) answer is k told =
      emptied_goes (Loaded p (Ring c ring Write) answer (after answer)) seen (answer == seen)
      (beside (Ring c ring Write) (Ring c ring Read) answer write read (read_write c ring) ∙ k.0) k.1
  lone_pop_goes (refusing_pop.Nonempty seen next) answer is k told =
      let e : held p.service (set p.known (number_of p.service.sizes (Ring c ring (Cell (seen % cells)))) answer) (Ring c ring Read)
      ≡ knows p (Ring c ring Read) =
      beside (Ring c ring (Cell (seen % cells))) (Ring c ring Read) answer is read (read_cell c (seen % cells) ring) in
      omega (arith, e, k.0.0, k.1, rises seen k.0.1)
  lone_pop_goes (refusing_pop.SawCell next value) answer is k told = tt
  lone_pop_goes (refusing_pop.Popped got) answer is k told = tt
  lone_pop_goes refusing_pop.LookBegun answer is k told = tt
  lone_pop_goes (refusing_pop.LookRead seen) answer is k told = tt
  lone_pop_goes (refusing_pop.Looked some) answer is k told = tt

  measured_goes : (q : Port) (limit value seen next read : ℕ) (b : Bool) → NamesSlot q value → At q (Ring c ring Write) seen
      → next ≡ successor seen
      → LonePush q (Ring c ring Write) (if b then refusing_push.SawRoom value seen next else refusing_push.Pushed value Refused)
  measured_goes q limit value seen next read true names at e = (names, at, e)
  measured_goes q limit value seen next read false names at e = tt

  pub lone_push_goes : (push : refusing_push_type.Push) (answer : ℕ)
      → IsOfTable p.service.sizes (on_ring c ring cells (refusing.push_next push)) → LonePush p (Ring c ring Write) push
      → ToldBy p (on_ring c ring cells (refusing.push_next push)) answer
      → LonePush (stepped p (on_ring c ring cells (refusing.push_next push)) answer after) (Ring c ring Write)
      (refusing.push_take push answer)
  lone_push_goes refusing_push.Idle answer is k told = tt
  lone_push_goes (refusing_push.Begun limit value) answer is k told = (k, (here (Ring c ring Write) answer write, told.0.small), refl)
  lone_push_goes (refusing_push.SawWrite limit value seen next) answer is k told =
      measured_goes (Loaded p (Ring c ring Read) answer (after answer)) limit value seen next answer (nat_lt (seen - answer) limit) k.0
      (beside (Ring c ring Read) (Ring c ring Write) answer read write (λ e. read_write c ring (sym e)) ∙ k.1.0, k.1.1) k.2
  lone_push_goes (refusing_push.SawRoom value seen next) answer is k told =
      let e : held p.service (set p.known (number_of p.service.sizes (Ring c ring (Cell (seen % cells)))) value) (Ring c ring Write)
      ≡ knows p (Ring c ring Write) =
      beside (Ring c ring (Cell (seen % cells))) (Ring c ring Write) value is write (write_cell c (seen % cells) ring) in
      omega (arith, e, k.1.0, k.2, rises seen k.1.1)
  lone_push_goes (refusing_push.Filled value next) answer is k told = tt
  lone_push_goes (refusing_push.Pushed value answered) answer is k told = tt

module _ (p : Port) (c : ℕ) (line : Line) (cells : ℕ) (after : ℕ → PortParty) (wide : length p.known ≡ words_of p.service.sizes)
    (ring : Overflows p.service c line) where
  over_read : IsWord p.service.sizes (read_word c)
  over_read = (ring.there, tt)

  over_write : IsWord p.service.sizes (write_word c)
  over_write = (ring.there, tt)

  at_here : (w : SharedWord) (x : ℕ) → IsWord p.service.sizes w → held p.service (set p.known (number_of p.service.sizes w) x) w ≡ x
  at_here w x is = at_same p.service p.known w x wide is

  at_beside : (w v : SharedWord) (x : ℕ) → IsWord p.service.sizes w → IsWord p.service.sizes v → (v ≡ w → ⊥)
      → held p.service (set p.known (number_of p.service.sizes w) x) v ≡ knows p v
  at_beside w v x is there off = at_other p.service p.known w v x is there off

  filled_goes : (q : Port) (limit value next read : ℕ) (b : Bool) → nat_lt limit (next - read) ≡ b → 0 < limit → read < 2 ^ 64
      → knows q (write_word c) ≡ next
      → OverPush q c (if b then overflowing_push.Full value read (successor read) else overflowing_push.Pushed value Kept)
  filled_goes q limit value next read true e room small at = let more : limit < next - read
      = ltb-true limit (next - read) e in (rises read small, omega (arith, more, room, at))
  filled_goes q limit value next read false e room small at = tt

  pub over_push_goes : (push : overflowing_push_type.Push) (answer : ℕ)
      → IsOfTable p.service.sizes (on_ring c Submission cells (overflowing.push_next push)) → OverPush p c push
      → ToldBy p (on_ring c Submission cells (overflowing.push_next push)) answer
      → OverPush (stepped p (on_ring c Submission cells (overflowing.push_next push)) answer after) c
      (overflowing.push_take push answer)
  over_push_goes overflowing_push.Idle answer is k told = tt
  over_push_goes (overflowing_push.Begun limit value) answer is k told
      = (k.0, k.1, (at_here (write_word c) answer over_write, told.0.small), refl)
  over_push_goes (overflowing_push.SawWrite limit value write next) answer is k told = (
    k.0,
    k.1,
    (
      at_beside (read_word c) (write_word c) answer over_read over_write (λ e. read_write c Submission (sym e)) ∙ k.2.0,
      k.2.1,
    ),
    k.3,
    told.0.small,
  )
  over_push_goes (overflowing_push.SawRead limit value write next read) answer is k told =
      let e : held p.service (set p.known (number_of p.service.sizes (Ring c Submission (Cell (write % cells)))) value) (write_word c)
      ≡ knows p (write_word c) =
      at_beside (Ring c Submission (Cell (write % cells))) (write_word c) value is over_write (write_cell c (write % cells) Submission) in
      (k.0, omega (arith, e, k.2.0, k.3, rises write k.2.1), k.4)
  over_push_goes (overflowing_push.Filled limit value write next read) answer is k told =
      filled_goes (Knew p (write_word c) next (after 0)) limit value next read (nat_lt limit (next - read)) refl k.0 k.2
      (at_here (write_word c) next over_write)
  over_push_goes (overflowing_push.Full value read next) answer is k told =
      let e : held p.service (set p.known (number_of p.service.sizes (Ring c Submission (Cell (read % cells)))) answer) (write_word c)
      ≡ knows p (write_word c) =
      at_beside (Ring c Submission (Cell (read % cells))) (write_word c) answer is over_write (write_cell c (read % cells) Submission) in
      (k.0, omega (arith, e, k.1))
  over_push_goes (overflowing_push.SawOldest value read next oldest) answer is k told = tt
  over_push_goes (overflowing_push.Pushed value answered) answer is k told = tt

  emptied_over : (q : Port) (seen answer : ℕ) (b : Bool) → (answer == seen) ≡ b → At q (read_word c) seen → seen ≤ answer
      → knows q (write_word c) ≡ answer → OverPop q c (overflowing.pop_emptied b seen)
  emptied_over q seen answer true e at up write = tt
  emptied_over q seen answer false e at up write = (at, omega (arith, up, write, eqb-false answer seen e), refl)

  lost_knows : (name : Party) (place found : ℕ) → name ≡ Subscriber place
      → (held p.service (known_lost name p.known (number_of p.service.sizes (read_word c)) found) (read_word c) ≡ found)
      × (found < held p.service (known_lost name p.known (number_of p.service.sizes (read_word c)) found) (write_word c))
  lost_knows (Publisher x) place found e = absurd (cc e)
  lost_knows (Subscriber x) place found e =
      let i : ℕ = number_of p.service.sizes (read_word c) in
      let behind : i - 1 ≡ number_of p.service.sizes (write_word c) = omega arith in
      let known : List ℕ = set p.known i found in
      let long : length known ≡ words_of p.service.sizes = length-set p.known i found ∙ wide in
      subst (λ (n : ℕ). (held p.service (set known n (max (slice_index p.known n) (found + 1))) (read_word c) ≡ found)
      × (found < held p.service (set known n (max (slice_index p.known n) (found + 1))) (write_word c)))
      (sym behind) (
        at_other p.service known (write_word c) (read_word c) (max (knows p (write_word c)) (found + 1)) over_write over_read
            (read_write c Submission) ∙ at_here (read_word c) found over_read,
        (let top : held p.service (set known (number_of p.service.sizes (write_word c)) (max (knows p (write_word c)) (found + 1)))
            (write_word c) ≡ max (knows p (write_word c)) (found + 1) =
            at_same p.service known (write_word c) (max (knows p (write_word c)) (found + 1)) long over_write in omega (arith, top)),
      )

  swapped_goes : (place seen next value answer : ℕ) (b : Bool) → p.name ≡ Subscriber place → answer < 2 ^ 64
      → OverPop (learned p (if b then set p.known (number_of p.service.sizes (read_word c)) next else known_lost p.name p.known
      (number_of p.service.sizes (read_word c)) answer) (after answer)) c
      (overflowing.pop_swapped b answer value)
  swapped_goes place seen next value answer true name small = tt
  swapped_goes place seen next value answer false name small = let t = lost_knows p.name place answer name in ((t.0, small), t.1, refl)

  pub over_pop_goes : (pop : overflowing_pop_type.Pop) (answer : ℕ) → p.name ≡ Subscriber line.subscriber
      → IsOfTable p.service.sizes (on_ring c Submission cells (overflowing.pop_next pop)) → OverPop p c pop
      → ToldBy p (on_ring c Submission cells (overflowing.pop_next pop)) answer
      → OverPop (stepped p (on_ring c Submission cells (overflowing.pop_next pop)) answer after) c (overflowing.pop_take pop answer)
  over_pop_goes overflowing_pop.Idle answer name is k told = tt
  over_pop_goes overflowing_pop.Begun answer name is k told = (at_here (read_word c) answer over_read, told.0.small)
  over_pop_goes (overflowing_pop.SawRead seen) answer name is k told =
      let up : knows p (read_word c) ≤ answer = told.0.above c line ring refl in
      emptied_over (Loaded p (write_word c) answer (after answer)) seen answer (answer == seen) refl
      (at_beside (write_word c) (read_word c) answer over_write over_read (read_write c Submission) ∙ k.0, k.1) (omega (arith, up, k.0))
      (at_here (write_word c) answer over_write)
  over_pop_goes (overflowing_pop.Nonempty seen next) answer name is k told =
      let cell : SharedWord = Ring c Submission (Cell (seen % cells)) in
      let e : held p.service (set p.known (number_of p.service.sizes cell) answer) (read_word c) ≡ knows p (read_word c)
      = at_beside cell (read_word c) answer is over_read (read_cell c (seen % cells) Submission) in
      let f : held p.service (set p.known (number_of p.service.sizes cell) answer) (write_word c) ≡ knows p (write_word c)
      = at_beside cell (write_word c) answer is over_write (write_cell c (seen % cells) Submission) in
      ((e ∙ k.0.0, k.0.1), omega (arith, f, k.1), k.2)
  over_pop_goes (overflowing_pop.SawCell seen next value) answer name is k told
      = swapped_goes line.subscriber seen next value answer (answer == seen) name told.0
  over_pop_goes (overflowing_pop.Popped got) answer name is k told = tt
  over_pop_goes overflowing_pop.LookBegun answer name is k told = tt
  over_pop_goes (overflowing_pop.LookRead seen) answer name is k told = tt
  over_pop_goes (overflowing_pop.Looked some) answer name is k told = tt
