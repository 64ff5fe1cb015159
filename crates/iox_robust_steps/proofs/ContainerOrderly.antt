-- What a container's machine shows: a new one satisfies the invariant, and the invariant implies the laws.
use Rattle.std.proofs.Common.{◌≡◌, ℕ, zero, suc, ◌+◌, ◌*◌, ◌^◌, ◌<◌, ◌≤◌, Bool, true, false, List, [], ◌∷◌, length}
use Rattle.std.proofs.Common.{slice_index, take, drop, replicate, if◌then◌else◌, ◌==◌, Ok, Err, Option, Some, None, refl, sym, ◌∙◌, ap}
use Rattle.std.proofs.Common.{subst, arith}
use Rattle.std.specs.Global.{Vec}
use Rattle.std.proofs.lemmas.Bool.{eqb-true}
use Rattle.std.proofs.lemmas.List.{get_or-replicate, length-replicate}
use Rattle.iox_queues_steps.specs.Access.{RingWords}
use Rattle.iox_queues.specs.Told.{own}
use Rattle.iox_queues.specs.Values.{table_value}
use Rattle.iox_queues.specs.declared.bits.machine.Event.{Event}
use Rattle.iox_robust_steps.specs.ContainerAsked.{IsMemberAskedSoFar}
use Rattle.iox_robust_steps.specs.ContainerSteps.{is_shown, member_in_hand}
use Rattle.iox_robust_steps.specs.ContainerMachine.{ContainerParts, HasFewMoves, empty_parts, empty_words, member_seat}
use Rattle.iox_robust_steps.specs.ContainerMachine.{member_stage, width_of}
use Rattle.iox_robust_steps.specs.ContainerOfSet.{asked_so_far}
use Rattle.iox_robust_steps.specs.ContainerStays.{LetsPassSoFar, ShowsWhose, StaysTillTakenOut}
use Rattle.iox_robust_steps.specs.ContainerInside.{inside_after}
use Rattle.iox_robust_steps.specs.ContainerTold.{AllAreNews, AreMembersTold, MemberTells, counted_by, is_change, times_counted}
use Rattle.iox_robust_steps.specs.ContainerKept.{FitsWhose, HasNoneLost, IsUnheld, KnowsMember, MembersAreKept, MembersAreOrderly}
use Rattle.iox_robust_steps.specs.ContainerKept.{MembersAreSound, MembersStay, ShownSoFar}
use Rattle.iox_robust_steps.specs.ContainerRecovering.{IsCalm}
use Rattle.iox_robust_steps.specs.Kept.{IsConsistent, IsQuiet}
use Rattle.iox_robust_steps.specs.Machine.{HasFewSteps, place_of, stage_at, start}
use Rattle.iox_robust_steps.specs.Steps.{lock_mark}
use Rattle.iox_robust_steps.specs.Told.{Holds}
use Rattle.iox_robust_steps.specs.declared.container.call.MemberAnswer.{MemberAnswer}
use Rattle.iox_robust_steps.specs.declared.container.call.MemberAnswer.TheVariants.{Added, Removed, Updated}
use Rattle.iox_robust_steps.specs.declared.container.call.MemberCall.{MemberCall}
use Rattle.iox_robust_steps.specs.declared.container.call.MemberCall.TheVariants as call
use Rattle.iox_robust_steps.specs.declared.container.MemberFinished.{MemberFinished}
use Rattle.iox_robust_steps.specs.declared.container.state.MemberSeat.{MemberSeat}
use Rattle.iox_robust_steps.specs.declared.state.Place.{Place}
use Rattle.iox_robust_steps.specs.declared.state.Place.TheVariants as place
use Rattle.iox_robust_steps.proofs.ContainerPassing.{each_moment}
use Rattle.iox_robust_steps.proofs.ContainerInside.{inside_is, stays_calm}
use Rattle.iox_robust_steps.proofs.ContainerRecovers.{leave_none, stands_beside}
use Rattle.iox_robust_steps.proofs.ContainerShows.{answered_all, each_shows_inside}
use Rattle.iox_robust_steps.proofs.ContainerThroughout.{each_shows}
use Rattle.iox_robust_steps.proofs.ContainerOfCalls.{empty_counted}
use Rattle.iox_robust_steps.proofs.ContainerOfSet.{all_reasons}
use Rattle.iox_robust_steps.proofs.ContainerSeats.{all_resting}
use Rattle.iox_robust_steps.proofs.Runs.{orderly}
use Rattle.iox_robust_steps.proofs.Starts.{start_kept}

-- an empty container
pub empty_kept : (capacity parties : ℕ) (values : List (Vec ℕ)) (decisions : List (Vec Bool))
    → capacity + (capacity * length (table_value values 0) + 1) < 2 ^ 62
    → MembersAreKept (empty_parts capacity parties values decisions)
empty_kept capacity parties values decisions small =
    let width : ℕ = length (table_value values 0) in
    record {
      indices = start_kept capacity parties decisions true (omega (arith, small));
      few = omega arith;
      small = omega (arith, small, length-replicate {A = ℕ} (capacity + (capacity * width + 1)) 0);
      size = length-replicate {A = ℕ} (capacity + (capacity * width + 1)) 0;
      began = λ q. omega (arith, ap (λ (s : MemberSeat). s.first) (all_resting parties q));
      since = λ q. omega (arith, ap (λ (s : MemberSeat). s.since) (all_resting parties q));
      recorded = record {
        answered = refl;
        ended = tt;
        going = λ q. subst (λ (s : MemberSeat). IsMemberAskedSoFar capacity width values q (member_in_hand s.stage) s.stage
            (own q (drop s.first []))) (sym (all_resting parties q)) tt;
      };
      counted = empty_counted capacity parties values decisions;
      sound = λ few. record {
        write = refl;
        low = λ i within. omega (arith, zeros i within);
        out = λ i within unheld. ap is_shown (zeros i within);
        knows = λ q. subst (λ (s : MemberSeat). KnowsMember capacity width values (empty_words capacity width)
            (replicate (capacity + (capacity * width + 1)) 0) (start capacity parties decisions true) q
            (stage_at (start capacity parties decisions true).seats q) s.first [] (own q (drop s.first [])) s.stage)
            (sym (all_resting parties q)) tt;
        told = tt;
        saw = λ q. subst (λ (s : MemberSeat). s.saw ≡ times_counted (take s.since [])) (sym (all_resting parties q)) refl;
        asks = λ q. subst (λ (s : MemberSeat). [] ≡ asked_so_far s.stage) (sym (all_resting parties q)) refl;
        stays = λ i within. tt;
        inside = λ i within. ap is_shown (zeros i within);
        passes = tt;
        passing = λ q. subst (λ (s : MemberSeat). LetsPassSoFar capacity s.stage (own q (drop s.first [])))
            (sym (all_resting parties q)) (λ going. refl);
        was_in = tt;
        shown = λ q. subst (λ (s : MemberSeat). ShownSoFar (start capacity parties decisions true)
            (replicate (capacity + (capacity * width + 1)) 0) s.first [] s.stage) (sym (all_resting parties q)) tt;
        showed = tt;
      };
      calm = λ few none. tt;
    }
  where
    zeros : (i : ℕ) → i < capacity → slice_index (replicate (capacity + (capacity * length (table_value values 0) + 1)) 0) i ≡ 0
    zeros i within = get_or-replicate {A = ℕ} (capacity + (capacity * length (table_value values 0) + 1)) i 0 0 (omega (arith, within))

-- counts of steps of one party, of first steps, and of those between
one_of : (b : Bool) (e : Event) (es : List Event) (p : ℕ) → times_counted (own p es) ≤ times_counted es
    → times_counted (if b then e ∷ own p es else own p es) ≤ counted_by e.access e.answer + times_counted es
one_of true e es p h = omega (arith, h)
one_of false e es p h = omega (arith, h)

own_counted : (p : ℕ) (events : List Event) → times_counted (own p events) ≤ times_counted events
own_counted p [] = omega arith
own_counted p (e ∷ events) = one_of (e.party == p) e events p (own_counted p events)

first_counted : (k : ℕ) (events : List Event) → times_counted (take k events) ≤ times_counted events
first_counted zero events = omega arith
first_counted (suc k) [] = omega arith
first_counted (suc k) (e ∷ events) = omega (arith, first_counted k events)

between : (a b : ℕ) (events : List Event) → a ≤ b
    → times_counted (take b events) ≡ times_counted (take a events) + times_counted (drop a (take b events))
between zero b events h = omega arith
between (suc a) zero events h = absurd (omega (arith, h))
between (suc a) (suc b) [] h = omega arith
between (suc a) (suc b) (e ∷ events) h = omega (arith, between a b events (omega (arith, h)))

-- a change counted once
counted_once : (n width : ℕ) (values : List (Vec ℕ)) (start : RingWords) (party first : ℕ) (events own : List Event) (c : MemberCall)
    (a : MemberAnswer)
    → is_change c a ≡ true → MemberTells n width values start 1 party first events own c a → times_counted own ≡ 1
counted_once n width values start party first events own (call.Add number owner) (Added (Ok index)) change t = t.2
counted_once n width values start party first events own (call.Add number owner) (Added (Err why)) change t = absurd (cc)
counted_once n width values start party first events own (call.Add number owner) (Removed state) change t = absurd t
counted_once n width values start party first events own (call.Add number owner) (Updated copied) change t = absurd t
counted_once n width values start party first events own (call.Remove owner index mode) (Added got) change t = absurd t
counted_once n width values start party first events own (call.Remove owner index mode) (Removed state) change t = t.2
counted_once n width values start party first events own (call.Remove owner index mode) (Updated copied) change t = absurd t
counted_once n width values start party first events own call.Update (Added got) change t = absurd t
counted_once n width values start party first events own call.Update (Removed state) change t = absurd t
counted_once n width values start party first events own call.Update (Updated copied) change t = absurd (cc)
counted_once n width values start party first events own (call.Recover owner number mode) (Added got) change t = absurd t
counted_once n width values start party first events own (call.Recover owner number mode) (Removed state) change t = t
counted_once n width values start party first events own (call.Recover owner number mode) (Updated copied) change t = absurd t

module _ (m : ContainerParts) (k : MembersAreKept m) (few : HasFewMoves m) where
  sound : MembersAreSound m.indices.capacity m
  sound = k.sound few

  inner_few : HasFewSteps m.indices
  inner_few = omega (arith, few, k.few)

  inner : IsConsistent m.indices
  inner = k.indices.sound inner_few

  nobody : (i : ℕ) → is_shown (slice_index m.words.cells i) ≡ true → i < m.indices.capacity → IsUnheld m.indices.places i → ⊥
  nobody i shown within unheld = let wrong : true ≡ false = sym shown ∙ sound.out i within unheld in cc

  holder_of : (i : ℕ) → is_shown (slice_index m.words.cells i) ≡ true → i < m.indices.capacity → (x : Place)
      → place_of m.indices.places i ≡ x → (p : ℕ) × Holds p i m.indices.events
  holder_of i shown within place.Empty h = absurd
      (nobody i shown within (λ r is. let wrong : place.Empty ≡ place.Held r = sym h ∙ is in cc))
  holder_of i shown within (place.Claimed q) h
      = absurd (nobody i shown within (λ r is. let wrong : place.Claimed q ≡ place.Held r = sym h ∙ is in cc))
  holder_of i shown within (place.Counted q) h
      = absurd (nobody i shown within (λ r is. let wrong : place.Counted q ≡ place.Held r = sym h ∙ is in cc))
  holder_of i shown within (place.Held q) h = (q, inner.whole.holders i q h)

  quiet_unheld : (x : Place) → IsQuiet x → (r : ℕ) → x ≡ place.Held r → ⊥
  quiet_unheld place.Empty quiet r is = cc
  quiet_unheld (place.Claimed q) quiet r is = cc
  quiet_unheld (place.Counted q) quiet r is = quiet
  quiet_unheld (place.Held q) quiet r is = quiet

  news_of : (saw since : ℕ) → saw ≡ times_counted (take since m.events) → (finished : List MemberFinished)
      → AreMembersTold m.indices.capacity (width_of m) m.values (empty_words m.indices.capacity (width_of m)) m.events finished
      → AllAreNews saw since m.words.write finished
  news_of saw since is [] told = tt
  news_of saw since is (f ∷ finished) told = (
    λ change later.
        let once : times_counted (own f.party (drop f.first (take f.last m.events))) ≡ 1
        = counted_once m.indices.capacity (width_of m) m.values (empty_words m.indices.capacity (width_of m)) f.party f.first
        (take f.last m.events) (own f.party (drop f.first (take f.last m.events))) f.call f.answer change told.0.0 in
        omega (
          arith,
          once,
          is,
          sound.write,
          own_counted f.party (drop f.first (take f.last m.events)),
          between since f.first m.events later,
          between f.first f.last m.events told.0.1.begun,
          first_counted f.last m.events,
        ),
    news_of saw since is finished told.1,
  )

  -- the count of a place shows whose member is in
  shows_whose : (i : ℕ) (o : Option ℕ) → FitsWhose o (slice_index m.words.cells i) (place_of m.indices.places i)
      → ShowsWhose i o (slice_index m.words.cells i) m.indices.events
  shows_whose i None h = h
  shows_whose i (Some p) h = (h.0, inner.whole.holders i p h.1)

  size_is : length (empty_words m.indices.capacity (width_of m)).cells ≡ m.indices.capacity + (m.indices.capacity * width_of m + 1)
  size_is = length-replicate {A = ℕ} (m.indices.capacity + (m.indices.capacity * width_of m + 1)) 0

  empty_out : (i : ℕ) → i < m.indices.capacity
      → is_shown (slice_index (empty_words m.indices.capacity (width_of m)).cells i) ≡ false
  empty_out i within = ap is_shown (get_or-replicate {A = ℕ} (m.indices.capacity + (m.indices.capacity * width_of m + 1)) i 0 0
      (omega (arith, within)))

  -- where no recovery began
  members_stay : HasNoneLost m → MembersStay m
  members_stay none =
      let calm : IsCalm m.events = k.calm few none in
      let stays : (i : ℕ) → i < m.indices.capacity → StaysTillTakenOut m.indices.capacity (width_of m) i None m.events
      = λ i within. stays_calm m.indices.capacity (width_of m) i None m.events calm (sound.stays i within) in
      record {
        stays = stays;
        whose = λ i within. subst (λ (o : Option ℕ). ShowsWhose i o (slice_index m.words.cells i) m.indices.events)
            (inside_is i None m.events calm) (shows_whose i (inside_after i None m.events) (sound.inside i within));
        shows = each_shows m.indices.capacity (width_of m) m.values (empty_words m.indices.capacity (width_of m)) size_is empty_out
            m.events m.finished sound.told stays;
      }

  pub members_orderly : MembersAreOrderly m
  members_orderly = record {
    indices = orderly m.indices k.indices inner_few;
    told = sound.told;
    asks = sound.asks;
    reasons = all_reasons m.indices inner.told m.finished (λ (q : ℕ). asked_so_far (member_stage m.seats q)) sound.asks;
    held = λ i within shown. holder_of i shown within (place_of m.indices.places i) refl;
    none_in = λ locked i within. sound.out i within (quiet_unheld (place_of m.indices.places i)
        (inner.whole.quiet (eqb-true m.indices.words.read lock_mark locked) i within));
    stays = sound.stays;
    inside = λ i within. shows_whose i (inside_after i None m.events) (sound.inside i within);
    shows = each_shows_inside m.indices.capacity (width_of m) k.indices.small m.values
        (empty_words m.indices.capacity (width_of m)) size_is empty_out m.events m.finished
        (answered_all (empty_words m.indices.capacity (width_of m)) m.words m.events k.recorded.answered) sound.told sound.stays;
    passes = sound.passes;
    passing = sound.passing;
    moments = each_moment m.indices.capacity (width_of m) k.indices.small m.values
        (empty_words m.indices.capacity (width_of m)) size_is m.indices.lost m.events m.finished
        (answered_all (empty_words m.indices.capacity (width_of m)) m.words m.events k.recorded.answered) sound.told sound.passes
        sound.stays sound.was_in;
    beside = λ q. stands_beside m.indices.capacity (width_of m) m.values (empty_words m.indices.capacity (width_of m)) m.words.cells
        m.indices
        q (member_seat m.seats q).first (stage_at m.indices.seats q) m.events (own q (drop (member_seat m.seats q).first m.events))
        (member_stage m.seats q) (sound.knows q);
    left = leave_none m.indices inner.freed m.words.cells m.indices.capacity (width_of m) m.values
        (empty_words m.indices.capacity (width_of m)) m.events m.finished sound.told (all_reasons m.indices inner.told m.finished
        (λ (q : ℕ). asked_so_far (member_stage m.seats q)) sound.asks);
    shown = sound.showed;
    news = λ q. news_of (member_seat m.seats q).saw (member_seat m.seats q).since (sound.saw q) m.finished sound.told;
    unrecovered = members_stay;
  }
