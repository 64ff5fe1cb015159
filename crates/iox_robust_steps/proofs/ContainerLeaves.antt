-- What a step of one party leaves to a call of another one on a container.
use Rattle.std.proofs.Common.{◌≡◌, ℕ, ◌+◌, ◌<◌, ◌≤◌, ◌⊎◌, inl, inr, ⊎_elim, Bool, true, false, Ok, Err, List, [], ◌∷◌, ◌++◌, length}
use Rattle.std.proofs.Common.{slice_index}
use Rattle.std.proofs.Common.{sym, ◌∙◌, ap, arith, append_assoc, length-append}
use Rattle.std.specs.Global.{Vec}
use Rattle.iox_queues_steps.specs.Access.{RingWords}
use Rattle.iox_queues.specs.declared.bits.machine.Event.{Event}
use Rattle.iox_robust_steps.specs.ContainerSteps.{is_shown, value_cell}
use Rattle.iox_robust_steps.specs.ContainerTold.{ComesIn, CopyIsTrue, GoesOut, MemberTells, Shown, WasSo}
use Rattle.iox_robust_steps.specs.ContainerKept.{HoldsFor, IsInStill, IsLostOwner, IsOf, IsSeenOrOut, KnowsMember}
use Rattle.iox_robust_steps.specs.Machine.{RobustSetState, is_lost, place_of}
use Rattle.iox_robust_steps.specs.Steps.{decided}
use Rattle.iox_robust_steps.specs.declared.call.RobustCall.{RobustCall}
use Rattle.iox_robust_steps.specs.declared.container.call.ContainerCall.{ContainerCall}
use Rattle.iox_robust_steps.specs.declared.container.call.ContainerCall.TheVariants as stage
use Rattle.iox_robust_steps.specs.declared.container.call.MemberAnswer.{MemberAnswer}
use Rattle.iox_robust_steps.specs.declared.container.call.MemberAnswer.TheVariants.{Added, Removed, Updated}
use Rattle.iox_robust_steps.specs.declared.container.call.MemberCall.{MemberCall}
use Rattle.iox_robust_steps.specs.declared.container.call.MemberCall.TheVariants as call
use Rattle.iox_robust_steps.specs.declared.state.Place.TheVariants as place
use Rattle.iox_robust_steps.proofs.ContainerWords.{count_before, value_before}

-- its owners' indices with their counts and values, unless they are lost; no index more; what is out of its own stays out; counts that
-- only grow; what lies with a count that it saw; and of owners that are lost no index more, nor a member, and each with its member
pub record LeavesMembers (n width q : ℕ) (cells cells' : List ℕ) (indices indices' : RobustSetState) : Type 0 where
  pub decisions : indices'.decisions ≡ indices.decisions
  pub alive : (o : ℕ) → is_lost o indices'.lost ≡ false → is_lost o indices.lost ≡ false
  pub gone : (o : ℕ) → is_lost o indices.lost ≡ true → is_lost o indices'.lost ≡ true
  pub held : (o i : ℕ) → i < n → is_lost o indices.lost ≡ false → HoldsFor indices q o i → HoldsFor indices' q o i
  pub back : (i : ℕ) → place_of indices'.places i ≡ place.Held q → place_of indices.places i ≡ place.Held q
  pub same : (o i : ℕ) → i < n → is_lost o indices.lost ≡ false → HoldsFor indices q o i → (slice_index cells' i ≡ slice_index cells i)
      × ((j : ℕ) → j < width → slice_index cells' (value_cell n width i j) ≡ slice_index cells (value_cell n width i j))
  pub out : (i : ℕ) → i < n → place_of indices.places i ≡ place.Held q → is_shown (slice_index cells i) ≡ false
      → is_shown (slice_index cells' i) ≡ false
  pub grows : (i : ℕ) → i < n → slice_index cells i ≤ slice_index cells' i
  pub gathers : (i seen : ℕ) → i < n → is_shown seen ≡ true → seen ≤ slice_index cells i → slice_index cells' i ≡ seen
      → (slice_index cells i ≡ seen)
      × ((j : ℕ) → j < width → slice_index cells' (value_cell n width i j) ≡ slice_index cells (value_cell n width i j))
  pub of_lost : (o i : ℕ) → i < n → IsLostOwner indices o → IsOf o (slice_index indices'.words.cells i)
      → IsOf o (slice_index indices.words.cells i)
      × ((slice_index cells' i ≡ slice_index cells i) ⊎ (is_shown (slice_index cells' i) ≡ false))
  pub in_lost : (o i : ℕ) → i < n → IsLostOwner indices o → slice_index cells' i ≡ slice_index cells i
      → is_shown (slice_index cells i) ≡ true → slice_index indices.words.cells i ≡ o → slice_index indices'.words.cells i ≡ o

-- what was so at a moment was so
module _ (n width : ℕ) (start : RingWords) (first : ℕ) (events : List Event) (e : Event) where
  longer : length (events ++ e ∷ []) ≡ length events + 1
  longer = length-append events (e ∷ [])

  pub was_on : (i : ℕ) (shown : Shown) → WasSo n width start first events i shown → WasSo n width start first (events ++ e ∷ []) i shown
  was_on i shown w = record {
    moment = w.moment;
    after = w.after;
    before = omega (arith, w.before, longer);
    count = count_before start events e i w.moment w.before ∙ w.count;
    value = λ in_then j low. value_before n width start events e i w.moment j w.before ∙ w.value in_then j low;
    whole = w.whole;
  }

  pub comes_on : (party i : ℕ) (value : List ℕ) → ComesIn n width start party first events i value
      → ComesIn n width start party first (events ++ e ∷ []) i value
  comes_on party i value c = record {
    earlier = c.earlier;
    event = c.event;
    later = c.later ++ e ∷ [];
    whole = ap (λ (es : List Event). es ++ e ∷ []) c.whole ∙ append_assoc c.earlier (c.event ∷ c.later) (e ∷ []);
    inside = c.inside;
    its = c.its;
    count = c.count;
    stores = c.stores;
    out = c.out;
    in_then = c.in_then;
    is = c.is;
  }

  pub goes_on_out : (party i : ℕ) → GoesOut start party first events i → GoesOut start party first (events ++ e ∷ []) i
  goes_on_out party i g = record {
    earlier = g.earlier;
    event = g.event;
    later = g.later ++ e ∷ [];
    whole = ap (λ (es : List Event). es ++ e ∷ []) g.whole ∙ append_assoc g.earlier (g.event ∷ g.later) (e ∷ []);
    inside = g.inside;
    its = g.its;
    count = g.count;
    stores = g.stores;
    in_before = g.in_before;
    out = g.out;
  }

  pub copy_on : (own : List Event) → CopyIsTrue n width start first events own → CopyIsTrue n width start first (events ++ e ∷ []) own
  copy_on own c = record {
    was_in = λ i within in_then. was_on i _ (c.was_in i within in_then);
    shows = λ i count within all. c.shows i count within
        (λ moment low high. sym (count_before start events e i moment high) ∙ all moment low (omega (arith, high, longer)));
  }

  pub tells_on : (values : List (Vec ℕ)) (counted party : ℕ) (own : List Event) (c : MemberCall) (a : MemberAnswer)
      → MemberTells n width values start counted party first events own c a
      → MemberTells n width values start counted party first (events ++ e ∷ []) own c a
  tells_on values counted party own (call.Add number owner) (Added (Ok index)) t = (t.0, comes_on party index _ t.1, t.2)
  tells_on values counted party own (call.Add number owner) (Added (Err why)) t = t
  tells_on values counted party own (call.Add number owner) (Removed state) t = t
  tells_on values counted party own (call.Add number owner) (Updated copied) t = t
  tells_on values counted party own (call.Remove owner index mode) (Added got) t = t
  tells_on values counted party own (call.Remove owner index mode) (Removed state) t = (t.0, goes_on_out party index t.1, t.2)
  tells_on values counted party own (call.Remove owner index mode) (Updated copied) t = t
  tells_on values counted party own call.Update (Added got) t = t
  tells_on values counted party own call.Update (Removed state) t = t
  tells_on values counted party own call.Update (Updated true) t = copy_on own t
  tells_on values counted party own call.Update (Updated false) t = t
  tells_on values counted party own (call.Recover owner number mode) (Added got) t = t
  tells_on values counted party own (call.Recover owner number mode) (Removed state) t = t
  tells_on values counted party own (call.Recover owner number mode) (Updated copied) t = t

  module _ (values : List (Vec ℕ)) (q : ℕ) (cells cells' : List ℕ) (indices indices' : RobustSetState) (s : RobustCall)
      (own : List Event) (l : LeavesMembers n width q cells cells' indices indices') where
    -- an index of an owner that isn't lost, at which a member is in or isn't
    still_held : (o i : ℕ) (b : Bool) → i < n → is_lost o indices'.lost ≡ false → HoldsFor indices q o i
        → is_shown (slice_index cells i) ≡ b → HoldsFor indices' q o i × (is_shown (slice_index cells' i) ≡ b)
    still_held o i b within live is h =
        let was : is_lost o indices.lost ≡ false = l.alive o live in
        (l.held o i within was is, ap is_shown (l.same o i within was is).0 ∙ h)

    still_lost : (o : ℕ) → IsLostOwner indices o → IsLostOwner indices' o
    still_lost o h = (h.0, l.gone o h.1)

    still_seen : (o i seen : ℕ) → i < n → IsLostOwner indices o
        → IsSeenOrOut o (slice_index indices.words.cells i) (slice_index cells i) seen
        → IsSeenOrOut o (slice_index indices'.words.cells i) (slice_index cells' i) seen
    still_seen o i seen within lost h is =
        let old : IsOf o (slice_index indices.words.cells i)
        × ((slice_index cells' i ≡ slice_index cells i) ⊎ (is_shown (slice_index cells' i) ≡ false)) = l.of_lost o i within lost is in
        ⊎_elim
        (λ (same : slice_index cells' i ≡ slice_index cells i). ⊎_elim
        (λ (seen_is : slice_index cells i ≡ seen). inl (same ∙ seen_is))
        (λ (out : is_shown (slice_index cells i) ≡ false). inr (ap is_shown same ∙ out))
        (h old.0))
        (λ (out : is_shown (slice_index cells' i) ≡ false). inr out)
        old.1

    still_no_member : (o i : ℕ) → i < n → IsLostOwner indices o
        → (IsOf o (slice_index indices.words.cells i) → is_shown (slice_index cells i) ≡ false)
        → IsOf o (slice_index indices'.words.cells i) → is_shown (slice_index cells' i) ≡ false
    still_no_member o i within lost h is =
        let old : IsOf o (slice_index indices.words.cells i)
        × ((slice_index cells' i ≡ slice_index cells i) ⊎ (is_shown (slice_index cells' i) ≡ false)) = l.of_lost o i within lost is in
        ⊎_elim
        (λ (same : slice_index cells' i ≡ slice_index cells i). ap is_shown same ∙ h old.0)
        (λ (out : is_shown (slice_index cells' i) ≡ false). out)
        old.1

    -- the place of an addition's answer is one of the n
    abbrev IsWithin : MemberCall → MemberAnswer → Type 0
    IsWithin (call.Add number owner) (Added (Ok index)) = index < n
    IsWithin (call.Add number owner) (Added (Err why)) = Unit {0}
    IsWithin (call.Add number owner) (Removed state) = Unit {0}
    IsWithin (call.Add number owner) (Updated copied) = Unit {0}
    IsWithin (call.Remove owner index mode) a = Unit {0}
    IsWithin call.Update a = Unit {0}
    IsWithin (call.Recover owner number mode) a = Unit {0}

    is_within : (counted : ℕ) (c : MemberCall) (a : MemberAnswer) → MemberTells n width values start counted q first events own c a
        → IsWithin c a
    is_within counted (call.Add number owner) (Added (Ok index)) t = t.0
    is_within counted (call.Add number owner) (Added (Err why)) t = tt
    is_within counted (call.Add number owner) (Removed state) t = tt
    is_within counted (call.Add number owner) (Updated copied) t = tt
    is_within counted (call.Remove owner index mode) a t = tt
    is_within counted call.Update a t = tt
    is_within counted (call.Recover owner number mode) a t = tt

    still_in : (c : MemberCall) (a : MemberAnswer) → IsWithin c a
        → IsInStill indices cells q c a → IsInStill indices' cells' q c a
    still_in (call.Add number owner) (Added (Ok index)) within h = λ live.
        let old : HoldsFor indices q owner index × (is_shown (slice_index cells index) ≡ true) = h (l.alive owner live) in
        still_held owner index true within live old.0 old.1
    still_in (call.Add number owner) (Added (Err why)) within h = tt
    still_in (call.Add number owner) (Removed state) within h = tt
    still_in (call.Add number owner) (Updated copied) within h = tt
    still_in (call.Remove owner index mode) a within h = tt
    still_in call.Update a within h = tt
    still_in (call.Recover owner number mode) a within h = tt

    pub knows_member_else : (t : ContainerCall) → KnowsMember n width values start cells indices q s first events own t
        → KnowsMember n width values start cells' indices' q s first (events ++ e ∷ []) own t
    knows_member_else stage.Idle k = tt
    knows_member_else (stage.Enter number owner) k = (
      k.0,
      k.1,
      k.2,
      λ i is. (
        (k.3 i is).0,
        λ live.
            let old : HoldsFor indices q owner i × (is_shown (slice_index cells i) ≡ false) = (k.3 i is).1 (l.alive owner live) in
            still_held owner i false (k.3 i is).0 live old.0 old.1,
      ),
    )
    knows_member_else (stage.Fill number owner index next) k = (
      k.0,
      k.1,
      k.2,
      λ live.
          let was : is_lost owner indices.lost ≡ false = l.alive owner live in
          let both : HoldsFor indices' q owner index × (is_shown (slice_index cells' index) ≡ false)
          = still_held owner index false k.1 live (k.3 was).0 (k.3 was).1 in (
            both.0,
            both.1,
            λ j low. (l.same owner index k.1 was (k.3 was).0).1 j (omega (arith, low, k.2)) ∙ (k.3 was).2 j low,
          ),
    )
    knows_member_else (stage.Show number owner index seen) k = (
      k.0,
      k.1,
      λ live.
          let was : is_lost owner indices.lost ≡ false = l.alive owner live in
          let both : HoldsFor indices' q owner index × (is_shown (slice_index cells' index) ≡ false)
          = still_held owner index false k.1 live (k.2 was).0 (k.2 was).1 in (
            both.0,
            both.1,
            (k.2 was).2 ∙ sym (l.same owner index k.1 was (k.2 was).0).0,
            λ j low. (l.same owner index k.1 was (k.2 was).0).1 j low ∙ (k.2 was).3 j low,
          ),
    )
    knows_member_else (stage.Sink owner index mode) k = (
      k.0,
      k.1,
      λ live.
          let was : is_lost owner indices.lost ≡ false = l.alive owner live in
          still_held owner index true k.1 live (k.2 was).0 (k.2 was).1,
    )
    knows_member_else (stage.Hide owner index mode seen) k = (
      k.0,
      k.1,
      λ live.
          let was : is_lost owner indices.lost ≡ false = l.alive owner live in
          let both : HoldsFor indices' q owner index × (is_shown (slice_index cells' index) ≡ true)
          = still_held owner index true k.1 live (k.2 was).0 (k.2 was).1 in
          (both.0, both.1, (k.2 was).2 ∙ sym (l.same owner index k.1 was (k.2 was).0).0),
    )
    knows_member_else (stage.Leave owner index mode) k =
        (k.0, k.1, goes_on_out q index k.2, λ is. l.out index k.1 (l.back index is) (k.3 (l.back index is)))
    knows_member_else (stage.Drop owner index mode) k =
        (k.0, k.1, goes_on_out q index k.2, λ is. l.out index k.1 (l.back index is) (k.3 (l.back index is)), k.4)
    knows_member_else (stage.Count c a) k = (k.0, tells_on values 0 q own c a k.1, still_in c a (is_within 0 c a k.1) k.2)
    knows_member_else (stage.Raise c a seen) k = (k.0, tells_on values 0 q own c a k.1, still_in c a (is_within 0 c a k.1) k.2)
    knows_member_else stage.Look k = tt
    knows_member_else (stage.Visit i) k = (k.0, λ j low. was_on j _ (k.1 j low))
    knows_member_else (stage.Gather i seen next) k = (
      k.0,
      λ j low. was_on j _ (k.1 j low),
      k.2,
      omega (arith, k.3, l.grows i k.0),
      k.4,
      k.5,
      λ is j low.
          let kept : (slice_index cells i ≡ seen) × _ = l.gathers i seen k.0 k.2 k.3 is in
          k.6 kept.0 j low ∙ sym (kept.1 j (omega (arith, low, k.5, k.4))),
    )
    knows_member_else (stage.Search owner number mode) k = k
    knows_member_else (stage.Watch owner number mode i) k = (k.0, k.1, still_lost owner k.2, k.3)
    knows_member_else (stage.Ask owner number mode i seen) k =
        (k.0, k.1, still_lost owner k.2, k.3, omega (arith, k.4, l.grows i k.1), still_seen owner i seen k.1 k.2 k.5)
    knows_member_else (stage.Expel owner number mode i seen) k = (
      k.0,
      k.1,
      still_lost owner k.2,
      k.3,
      omega (arith, k.4, l.grows i k.1),
      still_seen owner i seen k.1 k.2 k.5,
      k.6,
      λ is.
          let before : slice_index cells i ≡ seen = omega (arith, k.4, l.grows i k.1, is) in
          l.in_lost owner i k.1 k.2 (is ∙ sym before) (ap is_shown before ∙ k.6) (k.7 before),
      ap (λ (d : List (Vec Bool)). decided d number i) l.decisions ∙ k.8,
    )
    knows_member_else (stage.Clear owner number mode i) k =
        (k.0, k.1, still_lost owner k.2, k.3, still_no_member owner i k.1 k.2 k.4)
    knows_member_else (stage.Close owner number mode) k = (k.0, still_lost owner k.1, k.2, k.3)
    knows_member_else (stage.Done c a) k = (tells_on values 1 q own c a k.0, still_in c a (is_within 1 c a k.0) k.1)
