-- A step of a port that keeps the rule of words and ports is one that its seat may make.
use Rattle.std.proofs.Common.{ℕ, zero, suc, ◌≡◌, ◌+◌, ◌<◌, ◌≤◌, ◌^◌, ◌==◌, Bool, true, false, if◌then◌else◌, List, [], ◌∷◌, length, set}
use Rattle.std.proofs.Common.{slice_index, refl, sym, ◌∙◌, ap, subst, inl, inr, arith}
use mathlib.Core.Option.{some, none, some-injective, some-ne-none}
use lib.ListN.{get_elem?}
use prog.Atomic.{either}
use Rattle.atomic_table.specs.Table.{State, Me, step, Allows}
use Rattle.atomic_table.specs.Table.Act.{keeps}
use Rattle.atomic_table.proofs.Lists.{at_set, set_here, set_else}
use Rattle.iox_lanes_parties.specs.LanesBase.Numbers.{number_of, words_of, IsWord}
use Rattle.iox_lanes_parties.specs.LanesBase.declared.words.sizes.TableSizes.{TableSizes}
use Rattle.iox_lanes_parties.specs.LanesBase.declared.words.word.SharedWord.{SharedWord}
use Rattle.iox_lanes_parties.proofs.LanesBase.Numbering.{apart, within}
use Rattle.iox_lanes_machine.specs.LanesBase.declared.words.access.SharedAccess.{SharedAccess}
use Rattle.iox_lanes_machine.specs.LanesBase.declared.words.access.SharedAccess.TheVariants.{Load, Store, Exchange}
use Rattle.iox_lanes_threads_rule.specs.Lanes.{MakesNext, IsBacked}
use Rattle.iox_lanes_threads_rule.specs.Rule.{held, Fits, Sits, Ruled, one}
use Rattle.iox_lanes_threads_rule.specs.Steps.{saw, learned, known_exchanged, Told, MayStore, MayExchange}
use Rattle.iox_lanes_threads_rule.specs.Acts.{FitSome, Holds, MayAct, StandsAt, ToldBy, single, stepped, loaded, stored, exchanged}
use Rattle.iox_lanes_threads_rule.specs.declared.service.Service.{Service}
use Rattle.iox_lanes_threads_rule.specs.declared.view.Port.{Port}
use Rattle.iox_lanes_threads_rule.specs.declared.view.PortParty.{PortParty}
use Rattle.iox_lanes_threads_rule.specs.declared.view.View.{View}
use Rattle.iox_lanes_threads_rule.proofs.Keeping.{loads, stores, is_read}
use Rattle.iox_lanes_threads_rule.proofs.Exchanging.{exchanges}
use Rattle.iox_lanes_threads_rule.proofs.PortsBehind.{load_backed, store_backed, exchange_backed}

-- what a step of a port owes to the rule of words and ports
abbrev pub Moves : (List ℕ → List Port → Type 0) → Port → ℕ → (ℕ → ℕ) → (ℕ → Port → Type 0) → Type 0
Moves fits p i f shows = (words : List ℕ) (ports : List Port) → fits words ports → get_elem? ports p.number ≡ some p
    → slice_index words i < 2 ^ 64
    → (q : Port) × (q.number ≡ p.number) × fits (set words i (f (slice_index words i))) (set ports p.number q)
    × shows (slice_index words i) q

only : (q r : Port) (j : ℕ) → get_elem? (q ∷ []) j ≡ some r → q ≡ r
only q r zero e = some-injective q r e
only q r (suc j) e = absurd (some-ne-none r (sym e))

none_waits : (r : Port) (j : ℕ) → get_elem? [] j ≡ some r → ⊥
none_waits r j e = some-ne-none r (sym e)

within_list : (ports : List Port) (n : ℕ) (p : Port) → get_elem? ports n ≡ some p → n < length ports
within_list [] n p e = absurd (some-ne-none p (sym e))
within_list (q ∷ qs) zero p e = omega arith
within_list (q ∷ qs) (suc n) p e = omega (arith, within_list qs n p e)

module _ (fits : List ℕ → List Port → Type 0) (state : State ℕ View) (ruled : Ruled fits state) (id : ℕ) (p q : Port)
    (mine : get_elem? state.views id ≡ some (one p)) (same : q.number ≡ p.number) where
  abbrev ports : List Port
  ports = set ruled.ports p.number q

  my_seat : Sits ruled.owner ruled.ports id p
  my_seat = ruled.seated id (one p) 0 p mine refl

  q_sits : Sits ruled.owner ports id q
  q_sits = (
    ap ruled.owner same ∙ my_seat.0,
    ap (get_elem? ports) same ∙ set_here ruled.ports p.number q
        (within_list ruled.ports p.number p my_seat.1),
  )

  -- a port with another seat stays
  else_sits : (seat : ℕ) (r : Port) → (seat ≡ id → ⊥) → Sits ruled.owner ruled.ports seat r → Sits ruled.owner ports seat r
  else_sits seat r off sits
      = (sits.0, set_else ruled.ports p.number r.number q (λ e. off (sym sits.0 ∙ ap ruled.owner e ∙ my_seat.0)) ∙ sits.1)

  now_seated : (seat : ℕ) (v : View) (j : ℕ) (r : Port) → get_elem? (set state.views id (one q)) seat ≡ some v
      → get_elem? v.ports j ≡ some r → Sits ruled.owner ports seat r
  now_seated seat v j r got there = elim (at_set state.views id seat (one q) v got) [
    | inl here ↦
        let e : q ≡ r = only q r j (ap (λ (u : View). get_elem? u.ports j) here.1 ∙ there) in
        subst (λ (z : ℕ × Port). Sits ruled.owner ports z.0 z.1) (λ i. (sym here.0 i, e i)) q_sits
    | inr old ↦ else_sits seat r old.0 (ruled.seated seat v j r old.1 there)
  ]

  now_waiting : (seat : ℕ) (v : View) (j : ℕ) (r : Port) → get_elem? (set state.views id (one q)) seat ≡ some v
      → get_elem? v.waiting j ≡ some r → (r.number ≡ v.from + j) × Sits ruled.owner ports seat r
  now_waiting seat v j r got there = elim (at_set state.views id seat (one q) v got) [
    | inl here ↦ absurd (none_waits r j (ap (λ (u : View). get_elem? u.waiting j) here.1 ∙ there))
    | inr old ↦ let was = ruled.waiting seat v j r old.1 there in (was.0, else_sits seat r old.0 was.1)
  ]

pub lifts : (fits : List ℕ → List Port → Type 0) (slots id : ℕ) (p : Port) (i : ℕ) (f : ℕ → ℕ) (shows : ℕ → Port → Type 0)
    (tell : ℕ → Me ℕ View → Type 0)
    → Moves fits p i f shows → ((n : ℕ) (q : Port) → shows n q → tell n (single q)) → Allows (Ruled fits) slots id (single p) i f tell
lifts fits slots id p i f shows tell moves tells state ruled homes mine small =
    let sits = my_seat fits state ruled id p p mine refl in
    let m = moves state.words ruled.ports ruled.fit sits.1 small in (
      one m.0,
      keeps,
      tt,
      record {
        ports = set ruled.ports p.number m.0;
        owner = ruled.owner;
        fit = m.2;
        waiting = now_waiting fits state ruled id p m.0 mine m.1;
        seated = now_seated fits state ruled id p m.0 mine m.1;
      },
      tells (slice_index state.words i) m.0 m.3,
    )

-- the service is the port's
own_fit : (words : List ℕ) (ports : List Port) (p : Port) → FitSome words ports → get_elem? ports p.number ≡ some p
    → Fits p.service words ports × IsBacked p.service words ports
own_fit words ports p fit at =
    subst (λ (s : Service). Fits s words ports × IsBacked s words ports) (sym (fit.1.ports p.number p at).service) (fit.1, fit.2)

-- what is told of a word is told of the word of its number
at_number : (p : Port) (w v : SharedWord) (T : SharedWord → Type 0) → IsWord p.service.sizes w → IsWord p.service.sizes v
    → number_of p.service.sizes v ≡ number_of p.service.sizes w → T w → T v
at_number p w v T is there e h = subst T (sym (apart p.service.sizes v w there is e)) h

pub load_allowed : (slots id : ℕ) (p : Port) (after : ℕ → PortParty) (w : SharedWord) → IsWord p.service.sizes w
    → MakesNext p.party (Load w) after
    → Allows Holds slots id (single p) (number_of p.service.sizes w) (λ n. n)
    (loaded p after (step slots (number_of p.service.sizes w) 0 0 none) (single p))
load_allowed slots id p after w is next =
    lifts FitSome slots id p (number_of p.service.sizes w) (λ n. n)
    (λ n q. (q ≡ learned (saw p w) (set p.known (number_of p.service.sizes w) n) (after n)) × Told p.service p w n × StandsAt p w n)
    (loaded p after (step slots (number_of p.service.sizes w) 0 0 none) (single p))
    (λ words ports fit at small.
    let own = own_fit words ports p fit at in
    let done = loads p.service words ports p w (after (held p.service words w)) own.0 at is small in
    let known : List ℕ = set p.known (number_of p.service.sizes w) (held p.service words w) in (
      learned (saw p w) known (after (held p.service words w)),
      refl,
      (p.service, done.1, load_backed p.service words ports p w after own.0 at is next own.1),
      (refl, done.0, record { words = words; ports = ports; fit = own.0; backed = own.1; there = at; holds = refl }),
    ))
    (λ n q told. (
      refl,
      (λ v there e. at_number p w v
          (λ u. (single q ≡ single (learned (saw p u) (set p.known (number_of p.service.sizes w) n) (after n)))
          × Told p.service p u n × StandsAt p u n) is there e (ap single told.0, told.1, told.2)),
    ))

pub store_allowed : (slots id : ℕ) (p : Port) (after : ℕ → PortParty) (w : SharedWord) (new : ℕ) → MayStore p.service p w new
    → MakesNext p.party (Store w new) after
    → Allows Holds slots id (single p) (number_of p.service.sizes w) (λ _. new)
    (λ _. stored p after (step slots (number_of p.service.sizes w) new 0 none) (single p) new)
store_allowed slots id p after w new may next =
    lifts FitSome slots id p (number_of p.service.sizes w) (λ _. new)
    (λ n q. q ≡ learned p (set p.known (number_of p.service.sizes w) new) (after 0))
    (λ _. stored p after (step slots (number_of p.service.sizes w) new 0 none) (single p) new)
    (λ words ports fit at small.
    let own = own_fit words ports p fit at in
    let known : List ℕ = set p.known (number_of p.service.sizes w) new in (
      learned p known (after 0),
      refl,
      (
        p.service,
        stores p.service words ports p w new (after 0) own.0 at may,
        store_backed p.service words ports p w new after own.0 at may next own.1,
      ),
      refl,
    ))
    (λ n q told. (refl, ap single told))

same_either : (b : Bool) (x y : ℕ) → (if b then x else y) ≡ either b x y
same_either true x y = refl
same_either false x y = refl

-- the word of an exchange is one of the service
pub exchanged_word : (p : Port) (w : SharedWord) (old new : ℕ) → MayExchange p.service p w old new → IsWord p.service.sizes w
exchanged_word p w old new may
    = subst (IsWord p.service.sizes) (sym may.word) (is_read p.service may.connection may.line may.ring)

pub exchange_allowed : (slots id : ℕ) (p : Port) (after : ℕ → PortParty) (w : SharedWord) (old new : ℕ) → MayExchange p.service p w old new
    → MakesNext p.party (Exchange w old new) after
    → Allows Holds slots id (single p) (number_of p.service.sizes w) (λ n. either (n == old) new n)
    (exchanged p after (step slots (number_of p.service.sizes w) old new none) (single p))
exchange_allowed slots id p after w old new may next =
    let is : IsWord p.service.sizes w = exchanged_word p w old new may in
    lifts FitSome slots id p (number_of p.service.sizes w) (λ n. either (n == old) new n)
    (λ n q. (q ≡ learned p (known_exchanged p.name p.known (number_of p.service.sizes w) old new n) (after n)) × (n < 2 ^ 64)
    × (held p.service p.known w ≤ n)) (exchanged p after (step slots (number_of p.service.sizes w) old new none) (single p))
    (λ words ports fit at small.
    let found : ℕ = held p.service words w in
    let own = own_fit words ports p fit at in
    let done = exchanges p.service words ports p w old new (after found) own.0 at may in
    let known : List ℕ = known_exchanged p.name p.known (number_of p.service.sizes w) old new found in
    let q : Port = learned p known (after found) in
    let both = subst (λ (x : ℕ). Fits p.service (set words (number_of p.service.sizes w) x) (set ports p.number q)
    × IsBacked p.service (set words (number_of p.service.sizes w) x) (set ports p.number q)) (same_either (found == old) new found)
    (done.1, exchange_backed p.service words ports p w old new after own.0 at may next own.1) in (
      q,
      refl,
      (p.service, both.0, both.1),
      (refl, small, done.0),
    ))
    (λ n q told. (refl, ap single told.0, told.1, (λ v there e. at_number p w v (λ u. held p.service p.known u ≤ n) is there e told.2)))

-- the same, as a seat, a number and an access are handed in, and what the access tells
module _ (slots id words : ℕ) (sizes : TableSizes) (p : Port) (after : ℕ → PortParty) (me : Me ℕ View) (i : ℕ) (w : SharedWord)
    (mine : me ≡ single p) (same : p.service.sizes ≡ sizes)
    (at : i ≡ number_of sizes w) (wide : words ≡ words_of sizes) (access : SharedAccess) (may : MayAct p access)
    (next : MakesNext p.party access after) where
  at_own : number_of p.service.sizes w ≡ i
  at_own = ap (λ (z : TableSizes). number_of z w) same ∙ sym at

  in_table : IsWord p.service.sizes w → i < words
  in_table is = let less : number_of sizes w < words_of sizes
      = subst (λ (z : TableSizes). number_of z w < words_of z) same (within p.service.sizes w is).1 in omega (arith, less, at, wide)

  may_as : (own : SharedAccess) → access ≡ own → MayAct p own × MakesNext p.party own after
  may_as own is = subst (λ (a : SharedAccess). MayAct p a × MakesNext p.party a after) is (may, next)

  told_as : (own : SharedAccess) (found : ℕ) (me' : Me ℕ View) → access ≡ own → me' ≡ single (stepped p own found after)
      → ToldBy p own found → (me' ≡ single (stepped p access found after)) × ToldBy p access found
  told_as own found me' is port told =
      subst (λ (a : SharedAccess). (me' ≡ single (stepped p a found after)) × ToldBy p a found) (sym is) (port, told)

  pub load_granted : access ≡ Load w → (i < words)
      × Allows Holds slots id me i (λ n. n) (loaded p after (step slots i 0 0 none) me)
  load_granted is =
      let own = may_as (Load w) is in (
        in_table own.0,
        subst (λ (m : Me ℕ View). Allows Holds slots id m i (λ n. n) (loaded p after (step slots i 0 0 none) m)) (sym mine)
            (subst (λ (n : ℕ). Allows Holds slots id (single p) n (λ n. n) (loaded p after (step slots n 0 0 none) (single p))) at_own
            (load_allowed slots id p after w own.0 own.1)),
      )

  pub load_told : (found : ℕ) (me' : Me ℕ View) → access ≡ Load w → loaded p after (step slots i 0 0 none) me found me'
      → (me' ≡ single (stepped p access found after)) × ToldBy p access found
  load_told found me' is told =
      let its = told.1 w (may_as (Load w) is).0 at_own in
      told_as (Load w) found me' is
      (its.0 ∙ ap (λ (n : ℕ). single (learned (saw p w) (set p.known n found) (after found))) (sym at_own)) (its.1, its.2)

  pub store_granted : (new : ℕ) → access ≡ Store w new → (i < words)
      × Allows Holds slots id me i (λ _. new) (λ _. stored p after (step slots i new 0 none) me new)
  store_granted new is =
      let own = may_as (Store w new) is in (
        in_table own.0.word,
        subst (λ (m : Me ℕ View). Allows Holds slots id m i (λ _. new) (λ _. stored p after (step slots i new 0 none) m new)) (sym mine)
            (subst (λ (n : ℕ). Allows Holds slots id (single p) n (λ _. new)
            (λ _. stored p after (step slots n new 0 none) (single p) new)) at_own (store_allowed slots id p after w new own.0 own.1)),
      )

  pub store_told : (new : ℕ) (me' : Me ℕ View) → access ≡ Store w new → stored p after (step slots i new 0 none) me new me'
      → (me' ≡ single (stepped p access 0 after)) × ToldBy p access 0
  store_told new me' is told =
      told_as (Store w new) 0 me' is (told.1 ∙ ap (λ (n : ℕ). single (learned p (set p.known n new) (after 0))) (sym at_own)) refl

  pub exchange_granted : (old new : ℕ) → access ≡ Exchange w old new → (i < words)
      × Allows Holds slots id me i (λ n. either (n == old) new n) (exchanged p after (step slots i old new none) me)
  exchange_granted old new is =
      let own = may_as (Exchange w old new) is in (
        in_table (exchanged_word p w old new own.0),
        subst (λ (m : Me ℕ View). Allows Holds slots id m i (λ n. either (n == old) new n)
            (exchanged p after (step slots i old new none) m)) (sym mine)
            (subst (λ (n : ℕ). Allows Holds slots id (single p) n (λ n. either (n == old) new n)
            (exchanged p after (step slots n old new none) (single p))) at_own
            (exchange_allowed slots id p after w old new own.0 own.1)),
      )

  pub exchange_told : (old new found : ℕ) (me' : Me ℕ View) → access ≡ Exchange w old new
      → exchanged p after (step slots i old new none) me found me'
      → (me' ≡ single (stepped p access found after)) × ToldBy p access found
  exchange_told old new found me' is told =
      told_as (Exchange w old new) found me' is
      (told.1 ∙ ap (λ (n : ℕ). single (learned p (known_exchanged p.name p.known n old new found) (after found))) (sym at_own))
      (told.2, told.3 w (exchanged_word p w old new (may_as (Exchange w old new) is).0) at_own)
