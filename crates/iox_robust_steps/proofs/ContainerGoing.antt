-- What a party's own step leaves of a container, at each stage of its call that asks nothing of the set of indices.
use Rattle.std.proofs.Common.{◌≡◌, ℕ, ◌+◌, ◌*◌, ◌-◌, ◌^◌, ◌<◌, ◌≤◌, inl, inr, ⊎_elim, Bool, true, false, not, if◌then◌else◌, ◌==◌, nat_lt}
use Rattle.std.proofs.Common.{Ok, Err}
use Rattle.std.proofs.Common.{List, [], ◌∷◌, ◌++◌, length, slice_index, refl, sym, ◌∙◌, ap, subst, arith, length-append}
use Rattle.std.specs.Global.{Vec}
use Rattle.std.proofs.lemmas.Bool.{cases_eq, eq-eqb, eqb-false, eqb-true, lt-ltb, ltb-false, ltb-true, ne_eqb}
use Rattle.std.proofs.lemmas.List.{get_or_append_left, get_or_push}
use Rattle.iox_container.specs.declared.release.ReleaseMode.{ReleaseMode}
use Rattle.iox_queues_steps.specs.Access.{RingWords, after_access, after_store, answer_of, successor, word_of}
use Rattle.iox_queues_steps.specs.declared.access.Access.{Access}
use Rattle.iox_queues_steps.specs.declared.access.Access.TheVariants.{Load, Store, Exchange}
use Rattle.iox_queues_steps.specs.declared.access.Word.TheVariants.{Write, Cell}
use Rattle.iox_queues.specs.Moments.{words_after}
use Rattle.iox_queues.specs.Values.{table_value}
use Rattle.iox_queues.specs.declared.bits.machine.Event.{Event}
use Rattle.iox_robust_steps.specs.ContainerSteps.{is_shown, value_cell, visited, visits_from}
use Rattle.iox_robust_steps.specs.ContainerTold.{ComesIn, CopyIsTrue, MemberTells, WasSo, counted_by, gathered_after}
use Rattle.iox_robust_steps.specs.ContainerTold.{is_change, shown_at, times_counted}
use Rattle.iox_robust_steps.specs.ContainerKept.{IsInStill}
use Rattle.iox_robust_steps.specs.ContainerKept.{HasGathered, HoldsFor, IsLostOwner, IsOf, IsSeenOrOut, IsToFree, IsUnheld, KnowsMember}
use Rattle.iox_robust_steps.specs.ContainerKept.{SawBelow}
use Rattle.iox_robust_steps.specs.Machine.{CellFits, RobustSetState, is_lost, place_of}
use Rattle.iox_robust_steps.specs.declared.call.RobustCall.{RobustCall}
use Rattle.iox_robust_steps.specs.declared.call.RobustCall.TheVariants as set_stage
use Rattle.iox_robust_steps.specs.declared.container.call.ContainerCall.{ContainerCall}
use Rattle.iox_robust_steps.specs.declared.container.call.ContainerCall.TheVariants as stage
use Rattle.iox_robust_steps.specs.declared.container.call.MemberAnswer.{MemberAnswer}
use Rattle.iox_robust_steps.specs.declared.container.call.MemberAnswer.TheVariants.{Added, Removed, Updated}
use Rattle.iox_robust_steps.specs.declared.container.call.MemberCall.{MemberCall}
use Rattle.iox_robust_steps.specs.declared.container.call.MemberCall.TheVariants as call
use Rattle.iox_robust_steps.specs.declared.state.Place.{Place}
use Rattle.iox_robust_steps.specs.declared.state.Place.TheVariants as place
use Rattle.iox_robust_steps.proofs.ContainerLeaves.{LeavesMembers, tells_on, was_on}
use Rattle.iox_robust_steps.proofs.ContainerWords.{cells_now, count_else, count_here, count_position, counts_stay, exact}
use Rattle.iox_robust_steps.proofs.ContainerWords.{more_counted, more_gathered, more_noted, next_shown, rows_apart, value_else, value_here}
use Rattle.iox_robust_steps.proofs.ContainerWords.{value_position, values_stay, words_apart}

-- what one step of a party leaves: the counts count the step, no member is in where nobody holds the index, no other party loses what
-- it knows, and this one knows its new stage
pub record MemberMade (n width p : ℕ) (values : List (Vec ℕ)) (start words words' : RingWords) (indices indices' : RobustSetState)
    (s : RobustCall) (first : ℕ) (events own : List Event) (e : Event) (t : ContainerCall) : Type 0 where
  pub write : words'.write ≡ words.write + counted_by e.access e.answer
  pub low : (i : ℕ) → i < n → slice_index words'.cells i ≤ length events + 1
  pub out : (i : ℕ) → i < n → IsUnheld indices'.places i → is_shown (slice_index words'.cells i) ≡ false
  pub leaves : (q : ℕ) → (p ≡ q → ⊥) → LeavesMembers n width q words.cells words'.cells indices indices'
  pub knows : KnowsMember n width values start words'.cells indices' p s first (events ++ e ∷ []) (own ++ e ∷ []) t

-- a step that changes no word of the container
pub leaves_all_members : (n width q : ℕ) (cells : List ℕ) (indices indices' : RobustSetState) → indices'.decisions ≡ indices.decisions
    → ((o : ℕ) → is_lost o indices'.lost ≡ false → is_lost o indices.lost ≡ false)
    → ((o : ℕ) → is_lost o indices.lost ≡ true → is_lost o indices'.lost ≡ true)
    → ((o i : ℕ) → i < n → is_lost o indices.lost ≡ false → HoldsFor indices q o i → HoldsFor indices' q o i)
    → ((i : ℕ) → place_of indices'.places i ≡ place.Held q → place_of indices.places i ≡ place.Held q)
    → ((o i : ℕ) → i < n → IsLostOwner indices o → IsOf o (slice_index indices'.words.cells i)
    → IsOf o (slice_index indices.words.cells i))
    → ((o i : ℕ) → i < n → IsLostOwner indices o → is_shown (slice_index cells i) ≡ true → slice_index indices.words.cells i ≡ o
    → slice_index indices'.words.cells i ≡ o)
    → LeavesMembers n width q cells cells indices indices'
leaves_all_members n width q cells indices indices' decisions alive gone held back of_lost in_lost = record {
  decisions = decisions;
  alive = alive;
  gone = gone;
  held = held;
  back = back;
  same = λ o i within live is. (refl, λ j low. refl);
  out = λ i within is h. h;
  grows = λ i within. omega arith;
  gathers = λ i seen within in_then below is. (is, λ j low. refl);
  of_lost = λ o i within lost is. (of_lost o i within lost is, inl refl);
  in_lost = λ o i within lost same shown is. in_lost o i within lost shown is;
}

-- nor one of the set
pub leaves_same : (n width q : ℕ) (cells : List ℕ) (indices : RobustSetState) → LeavesMembers n width q cells cells indices indices
leaves_same n width q cells indices = leaves_all_members n width q cells indices indices refl (λ o h. h) (λ o h. h) (λ o i within live h. h)
    (λ i h. h) (λ o i within lost h. h) (λ o i within lost shown h. h)

both_true : true ≡ false → ⊥
both_true h = cc

-- one count was of a change that is told so far
counts_it : (n width : ℕ) (values : List (Vec ℕ)) (start : RingWords) (party first k : ℕ) (events own own' : List Event) (c : MemberCall)
    (a : MemberAnswer) → is_change c a ≡ true → (times_counted own ≡ 0 → times_counted own' ≡ k)
    → MemberTells n width values start 0 party first events own c a → MemberTells n width values start k party first events own' c a
counts_it n width values start party first k events own own' (call.Add number owner) (Added (Ok index)) change times t
    = (t.0, t.1, times t.2)
counts_it n width values start party first k events own own' (call.Add number owner) (Added (Err why)) change times t = absurd (cc)
counts_it n width values start party first k events own own' (call.Add number owner) (Removed state) change times t = absurd t
counts_it n width values start party first k events own own' (call.Add number owner) (Updated copied) change times t = absurd t
counts_it n width values start party first k events own own' (call.Remove owner index mode) (Added got) change times t = absurd t
counts_it n width values start party first k events own own' (call.Remove owner index mode) (Removed state) change times t
    = (t.0, t.1, times t.2)
counts_it n width values start party first k events own own' (call.Remove owner index mode) (Updated copied) change times t = absurd t
counts_it n width values start party first k events own own' call.Update (Added got) change times t = absurd t
counts_it n width values start party first k events own own' call.Update (Removed state) change times t = absurd t
counts_it n width values start party first k events own own' call.Update (Updated copied) change times t = absurd (cc)
counts_it n width values start party first k events own own' (call.Recover owner number mode) (Added got) change times t = absurd t
counts_it n width values start party first k events own own' (call.Recover owner number mode) (Removed state) change times t = times t
counts_it n width values start party first k events own own' (call.Recover owner number mode) (Updated copied) change times t = absurd t

-- a copy that went over all places is true
copy_true : (n width : ℕ) (start : RingWords) (first : ℕ) (events own : List Event) (k : ℕ) → n ≤ k
    → SawBelow n width start first events own k → CopyIsTrue n width start first events own
copy_true n width start first events own k past saw = record {
  was_in = λ i within in_then. saw i (omega (arith, within, past));
  shows = λ i count within all.
      let w : WasSo n width start first events i (shown_at n i own) = saw i (omega (arith, within, past)) in
      sym w.count ∙ all w.moment w.after w.before;
}

module _ (n width p : ℕ) (values : List (Vec ℕ)) (start words : RingWords) (indices : RobustSetState) (events own : List Event)
    (first : ℕ) (now : words ≡ words_after start events) (size : length words.cells ≡ n + (n * width + 1))
    (small : length words.cells < 2 ^ 62)
    (below : (i : ℕ) → i < n → slice_index words.cells i ≤ length events)
    (out : (i : ℕ) → i < n → IsUnheld indices.places i → is_shown (slice_index words.cells i) ≡ false)
    (fitting : (i : ℕ) → i < n → CellFits (place_of indices.places i) (slice_index indices.words.cells i))
    (began : first ≤ length events) (few : length events + 1 < 2 ^ 64 - 1) (write_low : words.write ≤ length events) where
  abbrev of : Access → ℕ → Event
  of access answer = record { party = p; access = access; answer = answer }

  abbrev Made : RingWords → RobustCall → Access → ℕ → ContainerCall → Type 0
  Made words' s access answer t
      = MemberMade n width p values start words words' indices indices s first events own (of access answer) t

  abbrev later : Access → ℕ → List Event
  later access answer = events ++ of access answer ∷ []

  abbrev mine : Access → ℕ → List Event
  mine access answer = own ++ of access answer ∷ []

  none_counted : (access : Access) (answer : ℕ) → counted_by access answer ≡ 0 → times_counted own ≡ 0
      → times_counted (mine access answer) ≡ 0
  none_counted access answer h times = omega (arith, more_counted own (of access answer), h, times)

  -- a step that changes no word
  pub quiet : (s : RobustCall) (access : Access) (answer : ℕ) (t : ContainerCall) → counted_by access answer ≡ 0
      → KnowsMember n width values start words.cells indices p s first (later access answer) (mine access answer) t
      → Made words s access answer t
  quiet s access answer t none knows = record {
    write = omega (arith, none);
    low = λ i within. omega (arith, below i within);
    out = out;
    leaves = λ q differs. leaves_same n width q words.cells indices;
    knows = knows;
  }

  count_is : (i : ℕ) → i < n → word_of words (Cell i) ≡ slice_index words.cells i
  count_is i within = ap (λ (k : ℕ). slice_index words.cells k) (count_position n width words.cells size small i within)

  -- a removal looks at the count of its place
  pub sink_made : (s : RobustCall) (owner index : ℕ) (mode : ReleaseMode) → times_counted own ≡ 0 → index < n
      → HoldsFor indices p owner index → is_shown (slice_index words.cells index) ≡ true
      → Made words s (Load (Cell index)) (word_of words (Cell index)) (stage.Hide owner index mode (word_of words (Cell index)))
  sink_made s owner index mode times within holds shown = quiet s (Load (Cell index)) (word_of words (Cell index)) _ refl (
    none_counted (Load (Cell index)) (word_of words (Cell index)) refl times,
    within,
    λ live. (holds, shown, count_is index within),
  )

  value_is : (i j : ℕ) → i < n → j < width
      → word_of words (Cell (value_cell n width i j)) ≡ slice_index words.cells (value_cell n width i j)
  value_is i j within low = ap (λ (k : ℕ). slice_index words.cells k) (value_position n width words.cells size small i j within low)

  -- who holds one index holds no other party's
  apart : (q i k : ℕ) → (p ≡ q → ⊥) → place_of indices.places i ≡ place.Held q → place_of indices.places k ≡ place.Held p → i ≡ k → ⊥
  apart q i k differs his own_is same =
      let is : place.Held p ≡ place.Held q = sym own_is ∙ ap (place_of indices.places) (sym same) ∙ his in differs (let e : p ≡ q = cc in e)

  -- a word of its value is stored at a place that the party holds
  module _ (s : RobustCall) (number owner index next : ℕ) (times : times_counted own ≡ 0) (within : index < n)
      (holds : HoldsFor indices p owner index) (hidden : is_shown (slice_index words.cells index) ≡ false) (next_low : next ≤ width)
      (filled : (j : ℕ) → j < next
      → slice_index words.cells (value_cell n width index j) ≡ slice_index (table_value values number) j) where
    abbrev value : ℕ
    value = slice_index (table_value values number) next

    abbrev cell : ℕ
    cell = value_cell n width index next

    fill_store : next < width → Made (after_store words (Cell cell) value) s (Store (Cell cell) value) 0
        (stage.Fill number owner index (next + 1))
    fill_store low = record {
      write = omega arith;
      low = λ i inside. omega (arith, stay i inside, below i inside);
      out = λ i inside unheld. ap is_shown (stay i inside) ∙ out i inside unheld;
      leaves = λ q differs. record {
        decisions = refl;
        alive = λ o h. h;
        gone = λ o h. h;
        held = λ o i inside live h. h;
        back = λ i h. h;
        same = λ o i inside live his.
            (stay i inside, λ j small_j. others i j inside small_j (apart q i index differs his.0 holds.0));
        out = λ i inside his h. ap is_shown (stay i inside) ∙ h;
        of_lost = λ o i inside lost is. (is, inl (stay i inside));
        in_lost = λ o i inside lost same shown is. is;
        grows = λ i inside. omega (arith, stay i inside);
        gathers = λ i seen inside in_then seen_low is.
            let before : slice_index words.cells i ≡ seen = sym (stay i inside) ∙ is in (
              before,
              λ j small_j. others i j inside small_j (λ same. both_true (sym in_then ∙ ap is_shown (sym before)
                  ∙ ap (λ (k : ℕ). is_shown (slice_index words.cells k)) same ∙ hidden)),
            );
      };
      knows = (
        none_counted (Store (Cell cell) value) 0 refl times,
        within,
        omega (arith, low),
        λ live. (holds, ap is_shown (stay index within) ∙ hidden, one_more),
      );
    }
      where
        stay : (i : ℕ) → i < n → slice_index (after_store words (Cell cell) value).cells i ≡ slice_index words.cells i
        stay i inside = counts_stay n width words.cells size small index next value within low i inside

        one_more : (j : ℕ) → j < next + 1 → slice_index (after_store words (Cell cell) value).cells (value_cell n width index j)
            ≡ slice_index (table_value values number) j
        one_more j below_next = ⊎_elim
            (λ (same : j ≡ next). ap (λ (k : ℕ). slice_index (after_store words (Cell cell) value).cells (value_cell n width index k)) same
            ∙ value_here n width words.cells size small index next value within low
            ∙ ap (λ (k : ℕ). slice_index (table_value values number) k) (sym same))
            (λ (differs : j ≡ next → ⊥). value_else n width words.cells size small index next value within low
            (value_cell n width index j)
            (words_apart n width words.cells size small index j next within (omega (arith, below_next, low)) low differs)
            ∙ filled j (omega (arith, below_next, differs)))
            (cases_eq j next)

        others : (i j : ℕ) → i < n → j < width → (i ≡ index → ⊥)
            → slice_index (after_store words (Cell cell) value).cells (value_cell n width i j)
            ≡ slice_index words.cells (value_cell n width i j)
        others i j inside small_j differs = value_else n width words.cells size small index next value within low (value_cell n width i j)
            (rows_apart n width words.cells size small i j index next inside small_j within low differs)

    pub fill_made : (b : Bool) → nat_lt next width ≡ b
        → Made (after_access words (if b then Store (Cell cell) value else Load (Cell index))) s
        (if b then Store (Cell cell) value else Load (Cell index))
        (answer_of words (if b then Store (Cell cell) value else Load (Cell index)))
        (if b then stage.Fill number owner index (next + 1)
        else stage.Show number owner index (answer_of words (if b then Store (Cell cell) value else Load (Cell index))))
    fill_made true e = fill_store (ltb-true next width e)
    fill_made false e = quiet s (Load (Cell index)) (word_of words (Cell index)) _ refl (
      none_counted (Load (Cell index)) (word_of words (Cell index)) refl times,
      within,
      λ live. (holds, hidden, count_is index within, λ j low. filled j (omega (arith, low, next_low, ltb-false next width e))),
    )

  -- the count of a place goes up by one
  module _ (s : RobustCall) (index seen : ℕ) (within : index < n) (is_seen : seen ≡ slice_index words.cells index) where
    abbrev access : Access
    access = Store (Cell index) (successor seen)

    abbrev counted_cells : List ℕ
    counted_cells = (after_store words (Cell index) (successor seen)).cells

    up : successor seen ≡ seen + 1
    up = omega (arith, is_seen, below index within, few)

    here : slice_index counted_cells index ≡ seen + 1
    here = count_here n width words.cells size small index (successor seen) within ∙ up

    else_where : (k : ℕ) → (k ≡ index → ⊥) → slice_index counted_cells k ≡ slice_index words.cells k
    else_where k differs = count_else n width words.cells size small index (successor seen) within k differs

    pub values_same : (i j : ℕ) → i < n → j < width
        → slice_index counted_cells (value_cell n width i j) ≡ slice_index words.cells (value_cell n width i j)
    values_same i j inside low = values_stay n width words.cells size small index (successor seen) within i j inside low

    either_count : (i : ℕ) → i < n → (slice_index words.cells i ≤ slice_index counted_cells i)
        × (slice_index counted_cells i ≤ length events + 1)
    either_count i inside = ⊎_elim
        (λ (same : i ≡ index). subst (λ (k : ℕ). (slice_index words.cells k ≤ slice_index counted_cells k)
        × (slice_index counted_cells k ≤ length events + 1)) (sym same)
        (omega (arith, here, is_seen), omega (arith, here, is_seen, below index within)))
        (λ (differs : i ≡ index → ⊥). (omega (arith, else_where i differs), omega (arith, else_where i differs, below i inside)))
        (cases_eq i index)

    pub now_is : (b : Bool) → is_shown (slice_index words.cells index) ≡ b → is_shown (slice_index counted_cells index) ≡ not b
    now_is b h = ap is_shown here ∙ next_shown seen ∙ ap not (ap is_shown is_seen ∙ h)

    gathers_so : (i saw : ℕ) → i < n → saw ≤ slice_index words.cells i → slice_index counted_cells i ≡ saw
        → (slice_index words.cells i ≡ saw)
        × ((j : ℕ) → j < width
        → slice_index counted_cells (value_cell n width i j) ≡ slice_index words.cells (value_cell n width i j))
    gathers_so i saw inside saw_low is = ⊎_elim
        (λ (same : i ≡ index). absurd (omega (
          arith,
          saw_low,
          is,
          here,
          is_seen,
          ap (λ (k : ℕ). slice_index counted_cells k) same,
          ap (λ (k : ℕ). slice_index words.cells k) same,
        )))
        (λ (apart_is : i ≡ index → ⊥). (sym (else_where i apart_is) ∙ is, λ j low. values_same i j inside low))
        (cases_eq i index)

    -- the party holds the index, for an owner that isn't lost
    module _ (owner : ℕ) (live : is_lost owner indices.lost ≡ false) (holds : HoldsFor indices p owner index) where
      fits_held : (x : Place) (cell : ℕ) → x ≡ place.Held p → CellFits x cell → cell < 2 ^ 63
      fits_held x cell is h = let both : CellFits (place.Held p) cell = subst (λ (y : Place). CellFits y cell) is h in both.1

      not_lost : (o : ℕ) → IsLostOwner indices o → IsOf o (slice_index indices.words.cells index) → ⊥
      not_lost o lost (inl is) =
          let wrong : true ≡ false = sym lost.1 ∙ ap (λ (k : ℕ). is_lost k indices.lost) (sym is ∙ holds.1) ∙ live in cc
      not_lost o lost (inr is) = omega (
        arith,
        is,
        lost.0.0,
        fits_held (place_of indices.places index) (slice_index indices.words.cells index) holds.0 (fitting index within),
      )

      pub raised : (t : ContainerCall)
          → KnowsMember n width values start counted_cells indices p s first (later access 0) (mine access 0) t
          → Made (after_store words (Cell index) (successor seen)) s access 0 t
      raised t knows = record {
        write = omega arith;
        low = λ i inside. (either_count i inside).1;
        out = λ i inside unheld. ap is_shown (else_where i (λ same. unheld p (ap (place_of indices.places) same ∙ holds.0)))
            ∙ out i inside unheld;
        leaves = λ q differs. record {
          decisions = refl;
          alive = λ o h. h;
          gone = λ o h. h;
          held = λ o i inside alive h. h;
          back = λ i h. h;
          same = λ o i inside alive his.
              (else_where i (apart q i index differs his.0 holds.0), λ j low. values_same i j inside low);
          out = λ i inside his h. ap is_shown (else_where i (apart q i index differs his holds.0)) ∙ h;
          grows = λ i inside. (either_count i inside).0;
          gathers = λ i saw inside in_then saw_low is. gathers_so i saw inside saw_low is;
          of_lost = λ o i inside lost is. (
            is,
            ⊎_elim
                (λ (same : i ≡ index). absurd (not_lost o lost
                (subst (λ (k : ℕ). IsOf o (slice_index indices.words.cells k)) same is)))
                (λ (apart_is : i ≡ index → ⊥). inl (else_where i apart_is))
                (cases_eq i index),
          );
          in_lost = λ o i inside lost same shown is. is;
        };
        knows = knows;
      }

      pub show_made : (number : ℕ) → times_counted own ≡ 0 → is_shown (slice_index words.cells index) ≡ false
          → ((j : ℕ) → j < width → slice_index words.cells (value_cell n width index j) ≡ slice_index (table_value values number) j)
          → Made (after_store words (Cell index) (successor seen)) s access 0 (stage.Count (call.Add number owner) (Added (Ok index)))
      show_made number times hidden filled =
          raised _ (refl, (within, comes, none_counted access 0 refl times), λ still. (holds, now_is false hidden))
        where
          comes : ComesIn n width start p first (later access 0) index (table_value values number)
          comes = record {
            earlier = events;
            event = of access 0;
            later = [];
            whole = refl;
            inside = began;
            its = refl;
            count = successor seen;
            stores = refl;
            out = ap (λ (w : RingWords). is_shown (slice_index w.cells index)) (sym now) ∙ hidden;
            in_then = ap (λ (w : RingWords). is_shown (slice_index (after_access w access).cells index)) (sym now) ∙ now_is false hidden;
            is = λ j low. ap (λ (w : RingWords). slice_index (after_access w access).cells (value_cell n width index j)) (sym now)
                ∙ values_same index j within low ∙ filled j low;
          }

      pub hide_made : (mode : ReleaseMode) → times_counted own ≡ 0 → is_shown (slice_index words.cells index) ≡ true
          → Made (after_store words (Cell index) (successor seen)) s access 0 (stage.Leave owner index mode)
      hide_made mode times in_then = raised _ (
        none_counted access 0 refl times,
        within,
        record {
          earlier = events;
          event = of access 0;
          later = [];
          whole = refl;
          inside = began;
          its = refl;
          count = successor seen;
          stores = refl;
          in_before = ap (λ (w : RingWords). is_shown (slice_index w.cells index)) (sym now) ∙ in_then;
          out = ap (λ (w : RingWords). is_shown (slice_index (after_access w access).cells index)) (sym now) ∙ now_is true in_then;
        },
        λ is. now_is true in_then,
      )

    -- a recovery takes the member of a lost owner out
    module _ (owner number : ℕ) (mode : ReleaseMode) (lost : IsLostOwner indices owner)
        (owned : slice_index indices.words.cells index ≡ owner) (in_then : is_shown (slice_index words.cells index) ≡ true) where
      abbrev expels : Access
      expels = Exchange (Cell index) seen (successor seen)

      out_now : is_shown (slice_index counted_cells index) ≡ false
      out_now = now_is true in_then

      no_live : (o i : ℕ) → i ≡ index → is_lost o indices.lost ≡ false → slice_index indices.words.cells i ≡ o → ⊥
      no_live o i same live is =
          let wrong : true ≡ false = sym lost.1
          ∙ ap (λ (k : ℕ). is_lost k indices.lost) (sym owned ∙ ap (λ (k : ℕ). slice_index indices.words.cells k) (sym same) ∙ is)
          ∙ live in cc

      out_either : (i : ℕ) → (is_shown (slice_index words.cells i) ≡ false) → is_shown (slice_index counted_cells i) ≡ false
      out_either i h = ⊎_elim
          (λ (same : i ≡ index). ap (λ (k : ℕ). is_shown (slice_index counted_cells k)) same ∙ out_now)
          (λ (apart_is : i ≡ index → ⊥). ap is_shown (else_where i apart_is) ∙ h)
          (cases_eq i index)

      pub expelled : (answer : ℕ) → times_counted own ≡ 0 → IsToFree owner number mode index s
          → Made (after_store words (Cell index) (successor seen)) s expels answer (stage.Clear owner number mode index)
      expelled answer times to_free = record {
        write = omega arith;
        low = λ i inside. (either_count i inside).1;
        out = λ i inside unheld. out_either i (out i inside unheld);
        leaves = λ q differs. record {
          decisions = refl;
          alive = λ o h. h;
          gone = λ o h. h;
          held = λ o i inside alive h. h;
          back = λ i h. h;
          same = λ o i inside alive his.
              (else_where i (λ same. no_live o i same alive his.1), λ j low. values_same i j inside low);
          out = λ i inside his h. out_either i h;
          grows = λ i inside. (either_count i inside).0;
          gathers = λ i saw inside shown saw_low is. gathers_so i saw inside saw_low is;
          of_lost = λ o i inside gone is. (
            is,
            ⊎_elim
                (λ (same : i ≡ index). inr (ap (λ (k : ℕ). is_shown (slice_index counted_cells k)) same ∙ out_now))
                (λ (apart_is : i ≡ index → ⊥). inl (else_where i apart_is))
                (cases_eq i index),
          );
          in_lost = λ o i inside gone same shown is. is;
        };
        knows = (none_counted expels answer refl times, within, lost, to_free, λ of. out_now);
      }

  -- a recovery looks at the count of a place
  pub watch_made : (s : RobustCall) (owner number : ℕ) (mode : ReleaseMode) (i : ℕ) → times_counted own ≡ 0 → i < n
      → IsLostOwner indices owner → s ≡ set_stage.Look owner number mode i
      → Made words s (Load (Cell i)) (word_of words (Cell i)) (stage.Ask owner number mode i (word_of words (Cell i)))
  watch_made s owner number mode i times within lost looks = quiet s (Load (Cell i)) (word_of words (Cell i)) _ refl (
    none_counted (Load (Cell i)) (word_of words (Cell i)) refl times,
    within,
    lost,
    looks,
    omega (arith, count_is i within),
    λ of. inl (sym (count_is i within)),
  )

  -- it takes the member out that it saw, or finds another count
  pub expel_made : (s : RobustCall) (owner number : ℕ) (mode : ReleaseMode) (i seen : ℕ) → times_counted own ≡ 0 → i < n
      → IsLostOwner indices owner → IsToFree owner number mode i s
      → IsSeenOrOut owner (slice_index indices.words.cells i) (slice_index words.cells i) seen → is_shown seen ≡ true
      → (slice_index words.cells i ≡ seen → slice_index indices.words.cells i ≡ owner) → (b : Bool) → (word_of words (Cell i) == seen) ≡ b
      → Made (if b then after_store words (Cell i) (successor seen) else words) s (Exchange (Cell i) seen (successor seen))
      (word_of words (Cell i)) (stage.Clear owner number mode i)
  expel_made s owner number mode i seen times within lost to_free known in_then owned true e =
      let same : slice_index words.cells i ≡ seen = sym (count_is i within) ∙ eqb-true (word_of words (Cell i)) seen e in
      expelled s i seen within (sym same) owner number mode lost (owned same) (ap is_shown same ∙ in_then) (word_of words (Cell i)) times
      to_free
  expel_made s owner number mode i seen times within lost to_free known in_then owned false e =
      quiet s (Exchange (Cell i) seen (successor seen)) (word_of words (Cell i)) _ refl (
        none_counted (Exchange (Cell i) seen (successor seen)) (word_of words (Cell i)) refl times,
        within,
        lost,
        to_free,
        λ of. ⊎_elim
            (λ (same : slice_index words.cells i ≡ seen). absurd
            (eqb-false (word_of words (Cell i)) seen e (count_is i within ∙ same)))
            (λ (out_is : is_shown (slice_index words.cells i) ≡ false). out_is)
            (known of),
      )

  -- a change is counted, or another one was meanwhile
  module _ (s : RobustCall) (c : MemberCall) (a : MemberAnswer) (change : is_change c a ≡ true)
      (told : MemberTells n width values start 0 p first events own c a) (kept : IsInStill indices words.cells p c a) where
    told_later : (access : Access) (answer k : ℕ) → counted_by access answer ≡ k
        → MemberTells n width values start k p first (later access answer) (mine access answer) c a
    told_later access answer k counts = counts_it n width values start p first k (later access answer) own (mine access answer) c a change
        (λ times. omega (arith, more_counted own (of access answer), counts, times))
        (tells_on n width start first events (of access answer) values 0 p own c a told)

    pub count_made : Made words s (Load Write) words.write (stage.Raise c a words.write)
    count_made = quiet s (Load Write) words.write _ refl (change, told_later (Load Write) words.write 0 refl, kept)

    pub raise_made : (seen : ℕ) (b : Bool) → (words.write == seen) ≡ b
        → Made (if b then after_store words Write (successor seen) else words) s (Exchange Write seen (successor seen)) words.write
        (if b then stage.Done c a else stage.Raise c a words.write)
    raise_made seen true e =
        let same : words.write ≡ seen = eqb-true words.write seen e in
        let one : counted_by (Exchange Write seen (successor seen)) words.write ≡ 1 = ap (λ (b : Bool). if b then 1 else 0) e in
        record {
          write = omega (arith, one, same, write_low, few);
          low = λ i within. omega (arith, below i within);
          out = out;
          leaves = λ q differs. leaves_same n width q words.cells indices;
          knows = (told_later (Exchange Write seen (successor seen)) words.write 1 one, kept);
        }
    raise_made seen false e =
        let none : counted_by (Exchange Write seen (successor seen)) words.write ≡ 0 = ap (λ (b : Bool). if b then 1 else 0) e in
        quiet s (Exchange Write seen (successor seen)) words.write _ none
        (change, told_later (Exchange Write seen (successor seen)) words.write 0 none, kept)

  -- a copy, after it loaded a cell
  abbrev found : List ℕ
  found = gathered_after n [] own

  module _ (s : RobustCall) (cell answer : ℕ) where
    abbrev load : Access
    load = Load (Cell cell)

    shown_other : (i : ℕ) → (cell ≡ i → ⊥) → shown_at n i (mine load answer) ≡ shown_at n i own
    shown_other i differs = more_noted n i [] (record { count = 0; value = [] }) own (of load answer)
        ∙ ap (λ (b : Bool). if b then (record { count = answer; value = found }) else shown_at n i own) (ne_eqb cell i differs)

    pub saw_still : (k : ℕ) → ((i : ℕ) → i < k → cell ≡ i → ⊥) → SawBelow n width start first events own k
        → SawBelow n width start first (later load answer) (mine load answer) k
    saw_still k differs saw i low = subst (WasSo n width start first (later load answer) i) (sym (shown_other i (differs i low)))
        (was_on n width start first events (of load answer) i (shown_at n i own) (saw i low))

  module _ (s : RobustCall) (k : ℕ) (within : k < n) (saw : SawBelow n width start first events own k) where
    abbrev count : ℕ
    count = word_of words (Cell k)

    abbrev look : Access
    look = Load (Cell k)

    next_is : successor k ≡ k + 1
    next_is = omega (arith, within, size, small)

    still : SawBelow n width start first (later look count) (mine look count) k
    still = saw_still s k count k (λ i low same. omega (arith, low, same)) saw

    shown_here : shown_at n k (mine look count) ≡ record { count = count; value = found }
    shown_here = more_noted n k [] (record { count = 0; value = [] }) own (of look count)
        ∙ ap (λ (b : Bool). if b then (record { count = count; value = found }) else shown_at n k own) (eq-eqb k k refl)

    saw_more : (is_shown count ≡ true → (length found ≡ width)
        × ((j : ℕ) → j < width → slice_index words.cells (value_cell n width k j) ≡ slice_index found j))
        → SawBelow n width start first (later look count) (mine look count) (successor k)
    saw_more gathered i low = ⊎_elim
        (λ (same : i ≡ k). subst (λ (l : ℕ). WasSo n width start first (later look count) l (shown_at n l (mine look count))) (sym same)
        (subst (WasSo n width start first (later look count) k) (sym shown_here) (record {
          moment = length events;
          after = began;
          before = omega (arith, length-append events (of look count ∷ []));
          count = ap (λ (cells : List ℕ). slice_index cells k) (cells_now start words events now (of look count))
              ∙ sym (count_is k within);
          value = λ in_then j small_j. ap (λ (cells : List ℕ). slice_index cells (value_cell n width k j))
              (cells_now start words events now (of look count)) ∙ (gathered in_then).1 j small_j;
          whole = λ in_then. (gathered in_then).0;
        })))
        (λ (differs : i ≡ k → ⊥). still i (omega (arith, low, next_is, differs)))
        (cases_eq i k)

    visits_known : (l : ℕ) → SawBelow n width start first (later look count) (mine look count) l → (b : Bool) → nat_lt l n ≡ b
        → KnowsMember n width values start words.cells indices p s first (later look count) (mine look count)
        (if b then stage.Visit l else stage.Done call.Update (Updated true))
    visits_known l so true e = (ltb-true l n e, so)
    visits_known l so false e = (copy_true n width start first (later look count) (mine look count) l (ltb-false l n e) so, tt)

    visited_known : (b : Bool) → is_shown count ≡ b
        → KnowsMember n width values start words.cells indices p s first (later look count) (mine look count)
        (if b then stage.Gather k count 0 else visits_from n (successor k))
    visited_known true e =
        let nothing : gathered_after n [] (mine look count) ≡ [] = more_gathered n [] own (of look count)
        ∙ ap (λ (b : Bool). if b then [] else found ++ count ∷ []) (lt-ltb k n within) in (
          within,
          still,
          e,
          omega (arith, count_is k within),
          omega arith,
          ap (λ (xs : List ℕ). length xs) nothing,
          λ is j low. absurd (omega (arith, low, ap (λ (xs : List ℕ). length xs) nothing)),
        )
    visited_known false e = visits_known (successor k) (saw_more (λ in_then. absurd (both_true (sym in_then ∙ e)))) (nat_lt (successor k) n)
        refl

    pub visit_made : Made words s look count (visited n k count)
    visit_made = quiet s look count _ refl (visited_known (is_shown count) refl)

    -- it gathered the value there, or a word of it
    module _ (seen next : ℕ) (in_then : is_shown seen ≡ true) (seen_low : seen ≤ slice_index words.cells k) (next_low : next ≤ width)
        (many : length found ≡ next) (gathered : HasGathered n width words.cells k seen found) where
      abbrev word_cell : ℕ
      word_cell = value_cell n width k next

      again_made : width ≤ next → (b : Bool) → (count == seen) ≡ b
          → Made words s look count (if b then visits_from n (successor k) else visited n k count)
      again_made all true e = quiet s look count _ refl (visits_known (successor k) (saw_more (λ shown. (
        omega (arith, many, next_low, all),
        λ j low. sym (gathered (sym (count_is k within) ∙ eqb-true count seen e) j (omega (arith, low, many, next_low, all))),
      ))) (nat_lt (successor k) n) refl)
      again_made all false e = visit_made

      word_made : next < width → Made words s (Load (Cell word_cell)) (word_of words (Cell word_cell)) (stage.Gather k seen (next + 1))
      word_made low = quiet s (Load (Cell word_cell)) (word_of words (Cell word_cell)) _ refl (
        within,
        saw_still s word_cell (word_of words (Cell word_cell)) k (λ i small_i same. omega (arith, behind, same, small_i, within)) saw,
        in_then,
        seen_low,
        omega (arith, low),
        omega (arith, more_is_long, many),
        λ is j below_next. ⊎_elim
            (λ (last : j ≡ next). ap (λ (xs : List ℕ). slice_index xs j) more
            ∙ get_or_push found (word_of words (Cell word_cell)) 0 j (sym (last ∙ sym many)) ∙ value_is k next within low
            ∙ ap (λ (l : ℕ). slice_index words.cells (value_cell n width k l)) (sym last))
            (λ (differs : j ≡ next → ⊥). ap (λ (xs : List ℕ). slice_index xs j) more
            ∙ get_or_append_left found (word_of words (Cell word_cell) ∷ []) 0 j (omega (arith, below_next, more_is_long, many, differs))
            ∙ gathered is j (omega (arith, below_next, more_is_long, many, differs)))
            (cases_eq j next),
      )
        where
          behind : n ≤ word_cell
          behind = omega (arith, exact n width words.cells size small k next within low)

          more : gathered_after n [] (mine (Load (Cell word_cell)) (word_of words (Cell word_cell)))
              ≡ found ++ word_of words (Cell word_cell) ∷ []
          more = more_gathered n [] own (of (Load (Cell word_cell)) (word_of words (Cell word_cell)))
              ∙ ap (λ (b : Bool). if b then [] else found ++ word_of words (Cell word_cell) ∷ []) (not_low (nat_lt word_cell n) refl)
            where
              not_low : (b : Bool) → nat_lt word_cell n ≡ b → nat_lt word_cell n ≡ false
              not_low true e = absurd (let low : word_cell < n = ltb-true word_cell n e in omega (arith, low, behind))
              not_low false e = e

          more_is_long : length (gathered_after n [] (mine (Load (Cell word_cell)) (word_of words (Cell word_cell)))) ≡ length found + 1
          more_is_long = ap (λ (xs : List ℕ). length xs) more ∙ length-append found (word_of words (Cell word_cell) ∷ [])

      pub gather_made : (b : Bool) → nat_lt next width ≡ b
          → Made (after_access words (if b then Load (Cell word_cell) else look)) s (if b then Load (Cell word_cell) else look)
          (answer_of words (if b then Load (Cell word_cell) else look))
          (if b then stage.Gather k seen (next + 1)
          else if answer_of words (if b then Load (Cell word_cell) else look) == seen then visits_from n (successor k)
          else visited n k (answer_of words (if b then Load (Cell word_cell) else look)))
      gather_made true e = word_made (ltb-true next width e)
      gather_made false e = again_made (ltb-false next width e) (count == seen) refl

  -- a copy looks at the count of changes
  pub look_made : (s : RobustCall) (saw : ℕ) (b : Bool)
      → Made words s (Load Write) words.write (if b then stage.Done call.Update (Updated false) else visits_from n 0)
  look_made s saw true = quiet s (Load Write) words.write _ refl (tt, tt)
  look_made s saw false = quiet s (Load Write) words.write _ refl (none (nat_lt 0 n) refl)
    where
      none : (b : Bool) → nat_lt 0 n ≡ b
          → KnowsMember n width values start words.cells indices p s first (later (Load Write) words.write)
          (mine (Load Write) words.write) (if b then stage.Visit 0 else stage.Done call.Update (Updated true))
      none true e = (ltb-true 0 n e, λ i low. absurd (omega (arith, low)))
      none false e = (
        copy_true n width start first (later (Load Write) words.write) (mine (Load Write) words.write) 0 (ltb-false 0 n e)
            (λ i low. absurd (omega (arith, low))),
        tt,
      )
