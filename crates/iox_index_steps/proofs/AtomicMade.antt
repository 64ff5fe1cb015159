-- What a party's own step leaves of a single value.
use Rattle.std.proofs.Common.{◌≡◌, ℕ, ◌+◌, ◌-◌, ◌%◌, ◌^◌, ◌<◌, ◌≤◌, ◌⊎◌, inl, inr, not}
use Rattle.std.proofs.Common.{Option, Some, None, List, [], ◌∷◌, ◌++◌, length, slice_index, take, drop, refl, sym, ◌∙◌, ap, subst}
use Rattle.std.proofs.Common.{arith, length-append, mod-eq_of_lt, take_all, ⊎_elim}
use Rattle.std.proofs.lemmas.Bool.{cases_eq}
use Rattle.std.proofs.lemmas.Grind.{same_number_lists}
use Rattle.std.proofs.lemmas.List.{get_or_append_left, get_or_push, length-take-le, take_more}
use Rattle.std.specs.Global.{Vec}
use Rattle.iox_queues_steps.specs.Access.{RingWords, after_access, answer_of, successor}
use Rattle.iox_queues_steps.specs.declared.access.Access.{Access}
use Rattle.iox_queues_steps.specs.declared.access.Access.TheVariants.{Load, Store, Local}
use Rattle.iox_queues_steps.specs.declared.access.Word.TheVariants.{Write, Cell}
use Rattle.iox_queues.specs.Told.{own}
use Rattle.iox_queues.specs.declared.bits.machine.Event.{Event}
use Rattle.iox_index_steps.specs.AtomicSteps.{fills_second, place}
use Rattle.iox_queues.specs.Values.{table_value}
use Rattle.iox_index_steps.specs.AtomicTold.{current_by, current_of, found_after, times_moved, moved_by, put_after, put_by}
use Rattle.iox_index_steps.specs.AtomicKept.{Knows, HalvesFit}
use Rattle.iox_index_steps.specs.declared.atomic.call.Call.TheVariants as call
use Rattle.iox_index_steps.specs.declared.atomic.call.AtomicCall.{AtomicCall}
use Rattle.iox_index_steps.specs.declared.atomic.call.AtomicCall.TheVariants as stage
use Rattle.iox_queues.proofs.OwnSteps.{own_more_since}
use Rattle.iox_index_steps.proofs.AtomicSums.{more_current, more_found, more_moved, more_put}
use Rattle.iox_index_steps.proofs.AtomicWords.{place_within, words_moved, words_put}
use Rattle.iox_index_steps.proofs.AtomicKnowing.{LeavesToOther}

-- the words fit the steps still, no other party loses what it knows, this one knows its new stage, and what is current now was
-- current before, or is of its store
pub record MadeStep (p first : ℕ) (values : List (Vec ℕ)) (words words' : RingWords) (producer producer' : Option ℕ)
    (events : List Event) (e : Event) (s : AtomicCall) : Type 0 where
  pub fit : HalvesFit (length (table_value values 0)) words' (current_of (table_value values 0) (events ++ e ∷ []))
      (put_after [] (events ++ e ∷ [])) (times_moved (events ++ e ∷ []))
  pub leaves : (q : ℕ) → (p ≡ q → ⊥) → LeavesToOther q producer producer' words.write words'.write (put_after [] events)
      (put_after [] (events ++ e ∷ [])) (current_of (table_value values 0) events) (current_of (table_value values 0) (events ++ e ∷ []))
  pub rest : producer' ≡ None → put_after [] (events ++ e ∷ []) ≡ []
  pub knows : Knows values words'.write producer' (events ++ e ∷ []) p first s
  pub shows : (current_of (table_value values 0) (events ++ e ∷ []) ≡ current_of (table_value values 0) events)
      ⊎ ((number : ℕ) × (s ≡ stage.Done (call.Store number))
      × (table_value values number ≡ current_of (table_value values 0) (events ++ e ∷ [])))

-- a step that puts nothing and moves no counter
pub record PutsNothing (access : Access) : Type 0 where
  pub moves : moved_by access ≡ 0
  pub puts : (put : List ℕ) → put_by access put ≡ put
  pub makes : (put current : List ℕ) → current_by access put current ≡ current

pub load_quiet : (word : _) → PutsNothing (Load word)
load_quiet word = record { moves = refl; puts = λ put. refl; makes = λ put current. refl }

pub local_quiet : PutsNothing Local
local_quiet = record { moves = refl; puts = λ put. refl; makes = λ put current. refl }

module _ (p first : ℕ) (values : List (Vec ℕ)) (words : RingWords) (producer : Option ℕ) (events : List Event)
    (w : HalvesFit (length (table_value values 0)) words (current_of (table_value values 0) events) (put_after [] events)
    (times_moved events))
    (size : length words.cells ≡ length (table_value values 0) + (length (table_value values 0) + 1))
    (rest : producer ≡ None → put_after [] events ≡ []) (began : first ≤ length events) where
  abbrev n : ℕ
  n = length (table_value values 0)

  abbrev initial : List ℕ
  initial = table_value values 0

  abbrev put : List ℕ
  put = put_after [] events

  abbrev current : List ℕ
  current = current_of initial events

  module _ (e : Event) (quiet : PutsNothing e.access) where
    pub put_same : put_after [] (events ++ e ∷ []) ≡ put
    put_same = more_put [] events e ∙ quiet.puts put

    pub current_same : current_of initial (events ++ e ∷ []) ≡ current
    current_same = more_current [] initial events e ∙ quiet.makes put current

    moved_same : times_moved (events ++ e ∷ []) ≡ times_moved events
    moved_same = omega (arith, more_moved events e, quiet.moves)

    pub quiet_fit : HalvesFit n words (current_of initial (events ++ e ∷ [])) (put_after [] (events ++ e ∷ []))
        (times_moved (events ++ e ∷ []))
    quiet_fit = subst (λ (k : ℕ). HalvesFit n words (current_of initial (events ++ e ∷ [])) (put_after [] (events ++ e ∷ [])) k)
        (sym moved_same)
        (subst (λ (xs : List ℕ). HalvesFit n words (current_of initial (events ++ e ∷ [])) xs (times_moved events)) (sym put_same)
        (subst (λ (xs : List ℕ). HalvesFit n words xs put (times_moved events)) (sym current_same) w))

    -- such a step of a party whose store doesn't end with it
    pub quiet_made : (s : AtomicCall) → Knows values words.write producer (events ++ e ∷ []) p first s
        → MadeStep p first values words words producer producer events e s
    quiet_made s k = record {
      fit = quiet_fit;
      leaves = λ q differs. record { kept = λ is. (is, put_same, refl); going = inr (refl, current_same) };
      rest = λ none. put_same ∙ rest none;
      knows = k;
      shows = inl current_same;
    }

    -- and of one whose store does
    pub ending_made : producer ≡ Some p → put ≡ [] → MadeStep p first values words words producer None events e stage.Idle
    ending_made holds none = record {
      fit = quiet_fit;
      leaves = λ q differs. record {
        kept = λ is. absurd (differs (same_holder q is));
        going = inr (refl, current_same);
      };
      rest = λ is. put_same ∙ none;
      knows = tt;
      shows = inl current_same;
    }
      where
        same_holder : (q : ℕ) → producer ≡ Some q → p ≡ q
        same_holder q is = let same : Some p ≡ Some q = sym holds ∙ is in cc

  only : (q : ℕ) → producer ≡ Some p → producer ≡ Some q → (p ≡ q → ⊥) → ⊥
  only q holds is differs = let same : Some p ≡ Some q = sym holds ∙ is in differs (cc)

  -- a store puts its next word
  module _ (number next : ℕ) (long : length (table_value values number) ≡ n) (holds : producer ≡ Some p)
      (puts : put ≡ take next (table_value values number)) (within : next < n) where
    abbrev puts_word : Event
    puts_word = record {
      party = p;
      access = Store (Cell (place n (fills_second words.write) next)) (slice_index (table_value values number) next);
      answer = 0;
    }

    abbrev value : List ℕ
    value = table_value values number

    put_more : put_after [] (events ++ puts_word ∷ []) ≡ put ++ slice_index value next ∷ []
    put_more = more_put [] events puts_word

    place_is : place n (fills_second words.write) next % length words.cells ≡ place n (fills_second words.write) next
    place_is = mod-eq_of_lt (omega (arith, place_within n (fills_second words.write) next within, size))

    next_is : next ≡ length put
    next_is = sym (ap (λ (xs : List ℕ). length xs) puts ∙ length-take-le next value (omega (arith, within, long)))

    pub put_made : MadeStep p first values words (after_access words puts_word.access) producer producer events puts_word
        (stage.Fill number words.write (next + 1))
    put_made = record {
      fit = subst (λ (k : ℕ). HalvesFit n (after_access words puts_word.access) (current_of initial (events ++ puts_word ∷ []))
          (put_after [] (events ++ puts_word ∷ [])) k) moved_is
          (subst (λ (xs : List ℕ). HalvesFit n (after_access words puts_word.access) (current_of initial (events ++ puts_word ∷ [])) xs
          (times_moved events)) (sym put_more)
          (subst (λ (xs : List ℕ). HalvesFit n (after_access words puts_word.access) xs (put ++ slice_index value next ∷ [])
          (times_moved events)) (sym (more_current [] initial events puts_word))
          (words_put n words current put (times_moved events) w size (slice_index value next) next
          (place n (fills_second words.write) next % length words.cells) next_is within place_is)));
      leaves = λ q differs. record {
        kept = λ is. absurd (only q holds is differs);
        going = inr (refl, more_current [] initial events puts_word);
      };
      rest = λ none. absurd (let same : Some p ≡ None = sym holds ∙ none in cc);
      knows = (
        long,
        holds,
        put_more ∙ ap (λ (xs : List ℕ). xs ++ slice_index value next ∷ []) puts
            ∙ sym (take_more value next 0 (omega (arith, within, long))),
        refl,
        omega (arith, within),
      );
      shows = inl (more_current [] initial events puts_word);
    }
      where
        moved_is : times_moved events ≡ times_moved (events ++ puts_word ∷ [])
        moved_is = omega (arith, more_moved events puts_word)

  -- a store moves the counter on
  module _ (number next : ℕ) (long : length (table_value values number) ≡ n) (holds : producer ≡ Some p)
      (puts : put ≡ take next (table_value values number)) (all : n ≤ next) where
    abbrev moves_on : Event
    moves_on = record { party = p; access = Store Write (successor words.write); answer = 0 }

    put_is : put ≡ table_value values number
    put_is = puts ∙ take_all next (table_value values number) (omega (arith, all, long))

    moment_is : times_moved (events ++ moves_on ∷ []) ≡ times_moved events + 1
    moment_is = more_moved events moves_on

    current_is : current_of initial (events ++ moves_on ∷ []) ≡ put
    current_is = more_current [] initial events moves_on

    none_left : put_after [] (events ++ moves_on ∷ []) ≡ []
    none_left = more_put [] events moves_on

    pub moved_made : times_moved (events ++ moves_on ∷ []) < 2 ^ 64 - 1
        → MadeStep p first values words (after_access words moves_on.access) producer producer events moves_on
        (stage.Done (call.Store number))
    moved_made few = record {
      fit = moved_fit;
      leaves = λ q differs. record {
        kept = λ is. absurd (only q holds is differs);
        going = inl (omega (arith, moved_fit.counter, moment_is, w.counter));
      };
      rest = λ none. absurd (let same : Some p ≡ None = sym holds ∙ none in cc);
      knows = (
        (holds, none_left),
        record {
          before = events;
          moment = moves_on;
          after = [];
          whole = refl;
          inside = began;
          its = refl;
          moves = refl;
          makes = current_is ∙ put_is;
          last = refl;
        },
      );
      shows = inr (number, refl, sym put_is ∙ sym current_is);
    }
      where
        moved_fit : HalvesFit n (after_access words moves_on.access) (current_of initial (events ++ moves_on ∷ []))
            (put_after [] (events ++ moves_on ∷ [])) (times_moved (events ++ moves_on ∷ []))
        moved_fit = subst (λ (k : ℕ). HalvesFit n (after_access words moves_on.access) (current_of initial (events ++ moves_on ∷ []))
            (put_after [] (events ++ moves_on ∷ [])) k) (sym moment_is)
            (subst (λ (xs : List ℕ). HalvesFit n (after_access words moves_on.access) (current_of initial (events ++ moves_on ∷ [])) xs
            (times_moved events + 1)) (sym none_left)
            (subst (λ (xs : List ℕ). HalvesFit n (after_access words moves_on.access) xs [] (times_moved events + 1)) (sym current_is)
            (words_moved n words current put (times_moved events) w size
            (ap (λ (xs : List ℕ). length xs) put_is ∙ long) (omega (arith, few, moment_is)))))

  -- a load
  abbrev found : List ℕ
  found = found_after [] (own p (drop first events))

  abbrev looks : Event
  looks = record { party = p; access = Load Write; answer = words.write }

  look_found : found_after [] (own p (drop first (events ++ looks ∷ []))) ≡ []
  look_found = ap (found_after []) (own_more_since p first events looks began refl) ∙ more_found [] (own p (drop first events)) looks

  -- it looked at the counter, and found nothing since
  pub look_made : MadeStep p first values words words producer producer events looks (stage.Gather words.write 0)
  look_made = quiet_made looks (load_quiet Write) (stage.Gather words.write 0) (
    ap (λ (xs : List ℕ). length xs) look_found,
    omega arith,
    omega arith,
    λ is i within. absurd (omega (arith, within)),
  )

  -- it found the next word
  module _ (counter next : ℕ) (many : length found ≡ next) (within : next < n) (past : counter ≤ words.write)
      (same : counter ≡ words.write → (i : ℕ) → i < next → slice_index found i ≡ slice_index current i) where
    abbrev word : ℕ
    word = answer_of words (Load (Cell (place n (not (fills_second counter)) next)))

    abbrev finds : Event
    finds = record { party = p; access = Load (Cell (place n (not (fills_second counter)) next)); answer = word }

    more : found_after [] (own p (drop first (events ++ finds ∷ []))) ≡ found ++ word ∷ []
    more = ap (found_after []) (own_more_since p first events finds began refl) ∙ more_found [] (own p (drop first events)) finds

    word_is : counter ≡ words.write → word ≡ slice_index current next
    word_is is =
        ap (λ (k : ℕ). slice_index words.cells k)
        (mod-eq_of_lt (omega (arith, place_within n (not (fills_second counter)) next within, size)))
        ∙ ap (λ (k : ℕ). slice_index words.cells (place n (not (fills_second k)) next)) is ∙ w.shows next within

    at : counter ≡ words.write → (i : ℕ) → i < next + 1
        → slice_index (found_after [] (own p (drop first (events ++ finds ∷ [])))) i
        ≡ slice_index (current_of initial (events ++ finds ∷ [])) i
    at is i below = ap (λ (xs : List ℕ). slice_index xs i) more ∙ here
        ∙ ap (λ (xs : List ℕ). slice_index xs i) (sym (current_same finds (load_quiet _)))
      where
        here : slice_index (found ++ word ∷ []) i ≡ slice_index current i
        here = ⊎_elim
            (λ (last : i ≡ next). subst (λ (k : ℕ). slice_index (found ++ word ∷ []) k ≡ slice_index current k) (sym last)
            (get_or_push found word 0 next many ∙ word_is is))
            (λ (differs : i ≡ next → ⊥). get_or_append_left found (word ∷ []) 0 i (omega (arith, many, below, differs))
            ∙ same is i (omega (arith, below, differs)))
            (cases_eq i next)

    pub find_made : MadeStep p first values words words producer producer events finds (stage.Gather counter (next + 1))
    find_made = quiet_made finds (load_quiet _) (stage.Gather counter (next + 1)) (
      ap (λ (xs : List ℕ). length xs) more ∙ length-append found (word ∷ []) ∙ omega (arith, many),
      omega (arith, within),
      past,
      at,
    )

  -- it looked again, and the counter hadn't moved
  pub seen_made : (counter next : ℕ) → length found ≡ next → next ≡ n → counter ≡ words.write
      → (counter ≡ words.write → (i : ℕ) → i < next → slice_index found i ≡ slice_index current i)
      → MadeStep p first values words words producer producer events looks (stage.Done call.Load)
  seen_made counter next many all is same = quiet_made looks (load_quiet Write) (stage.Done call.Load) (
    tt,
    record {
      before = events;
      look = looks;
      after = [];
      whole = refl;
      inside = began;
      its = refl;
      looks = refl;
      sees = same_number_lists found current (omega (arith, many, all, w.wide))
          (λ i within. same is i (omega (arith, within, many)));
      last = refl;
    },
  )
