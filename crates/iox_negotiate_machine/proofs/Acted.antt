-- What a table does at steps of nodes outside the hub, and a machine in all its phases.
use Rattle.std.proofs.Common.{◌≡◌, ◌≢◌, ℕ, ◌+◌, ◌^◌, ◌≤◌, ◌<◌, Bool, true, false, cond, ◌&&◌, true≢false, suc, List, [], ◌∷◌, ◌++◌}
use Rattle.std.proofs.Common.{Option, None, Result, Ok, Err, length, refl, sym, ap, subst, ◌∙◌, inl, inr, arith}
use Rattle.std.specs.Cmp.Lexicographic.{same_text}
use Rattle.std.specs.List.{AllByRecursion, IsAmong}
use Rattle.std.specs.Prelude.{fold, map, take, bytes_eq}
use Rattle.std.proofs.lemmas.Bool.{lt-ltb}
use Rattle.std.specs.declared.alloc.AllocError.{AllocError}
use Rattle.iox_command.specs.NegotiateBase.DescribeBase.Hash.{service_hash_of}
use Rattle.iox_command.specs.NegotiateBase.DescribeBase.declared.hash.ServiceHash.{ServiceHash}
use Rattle.iox_command.specs.NegotiateBase.DescribeBase.declared.message_type.MessageTypeDetails.{MessageTypeDetails}
use Rattle.iox_command.specs.NegotiateBase.DescribeBase.declared.pattern.MessagingPattern.{MessagingPattern}
use Rattle.iox_command.specs.declared.step.ForeignStep.{ForeignStep}
use Rattle.iox_machine.specs.Choices.{Choices}
use Rattle.iox_machine.specs.Phase.{Phase, Absent, BeingMade, Published, Emptied, acted, same_pattern}
use Rattle.iox_machine.specs.State.{State, with_phase}
use Rattle.iox_negotiate.proofs.Changes.{Change, Same, LockOf, Without, PublishOf, NewSegment, OfSegment, WithoutSegment, ServiceOf}
use Rattle.iox_negotiate.proofs.Changes.{Removal, IsElsewhere, changes, elsewhere, hash_of, hash-from, rises}
use Rattle.iox_negotiate.proofs.Tables.{reached}
use Rattle.iox_negotiate.specs.Histories.{Event, Steps, Happens, Ran, IsReached}
use Rattle.iox_negotiate_machine.proofs.Acting.{After, OwnHash, acts-there, pattern-is, pattern-itself, name-itself, last-then}
use Rattle.iox_negotiate_machine.proofs.Limits.{and-true, both}
use Rattle.iox_negotiate_machine.specs.Laws.{HaveOwnHashes, GoOn, HasStepForm, table_step_of, ForeignStepsMatch, ForeignMatches}
use Rattle.iox_negotiate_machine.specs.Standing.{AreFalling, PhaseStands, TableStands}
use Rattle.iox_negotiate_table.specs.Contents.{Contents, empty_table, is_description_of, is_published, segment_at}
use Rattle.iox_negotiate_table.specs.Stepped.{ActsAll, GoesOn}
use Rattle.iox_negotiate_table.specs.declared.entry.Entry.{Entry}

-- ---- phases of other names

falling-on : (old new : ℕ) (numbers : List ℕ) → old ≤ new → AreFalling old numbers → AreFalling new numbers
falling-on old new [] less falling = tt
falling-on old new (number ∷ before) less falling = (omega (arith, less, falling.0), falling.1)

module _ (pattern : MessagingPattern) (name : List ℕ) (old new : Contents) (taken : List ℕ)
    (aside : IsElsewhere (service_hash_of pattern name) old new) (less : old.next ≤ new.next) where
  only : ((number : ℕ) → is_published (service_hash_of pattern name) number old ≡ false
      → segment_at (service_hash_of pattern name) number old ≡ None)
      → (number : ℕ) → is_published (service_hash_of pattern name) number new ≡ false
      → segment_at (service_hash_of pattern name) number new ≡ None
  only segments number isnt =
      aside.segment number ∙ segments number (subst (λ (e : Option Entry). is_description_of number e ≡ false) aside.entry isnt)

  -- where nothing changed under a hash its phase is as it was
  stays : (phase : Phase) → PhaseStands pattern name old taken phase → PhaseStands pattern name new taken phase
  stays (Absent lives) stands = record {
    lives = stands.lives;
    falling = falling-on old.next new.next taken less stands.falling;
    lies = aside.entry ∙ stands.lies;
    segments = only stands.segments;
  }
  stays (BeingMade life by) stands = record {
    lives = stands.lives;
    falling = falling-on old.next new.next taken less stands.falling;
    lies = last-then taken stands.lies (λ number so. aside.entry ∙ so);
    segments = only stands.segments;
  }
  stays (Published life agreed nodes) stands = record {
    lives = stands.lives;
    falling = falling-on old.next new.next taken less stands.falling;
    lies = last-then taken stands.lies (λ number so. (
      record {
        version = so.0.version;
        said = so.0.said;
        described = aside.entry ∙ so.0.described;
        kind = so.0.kind;
        within = so.0.within;
      },
      record { seated = so.1.seated; stands = aside.segment number ∙ so.1.stands; nodes_stand = so.1.nodes_stand; room = so.1.room },
    ));
    segments = only stands.segments;
  }
  stays (Emptied life agreed by) stands = record {
    lives = stands.lives;
    falling = falling-on old.next new.next taken less stands.falling;
    lies = last-then taken stands.lies (λ number so. (
      record {
        version = so.0.version;
        said = so.0.said;
        described = aside.entry ∙ so.0.described;
        kind = so.0.kind;
        within = so.0.within;
      },
      aside.segment number ∙ so.1,
    ));
    segments = only stands.segments;
  }

-- ---- one step, and many

pub grows : (event : Event) (hash : ServiceHash) (old new : Contents) → Change event hash old new → new.next ≤ old.next + 1
grows event hash old new (Same is) = rw is (omega arith)
grows event hash old new (LockOf node free is) = rw is (omega arith)
grows event hash old new (Without is) = rw is (omega arith)
grows event hash old new (PublishOf node number bytes locked by is) = rw is (omega arith)
grows event hash old new (NewSegment number node segment locked is) = rw is (omega arith)
grows event hash old new (OfSegment number before segment stood room turns is) = rw is (omega arith)
grows event hash old new (WithoutSegment number is) = rw is (omega arith)
grows event hash old new (ServiceOf version node number agreed locked by own is) = rw is (omega arith)
grows event hash old new (Removal number is) = rw is (omega arith)

-- a table that was reached, and one event more
reached-more : (events : List Event) (event : Event) (first old new : Contents) → Ran first events old → Happens old event new
    → Ran first (events ++ event ∷ []) new
reached-more [] event first old new ran happens = (new, subst (λ (t : Contents). Happens t event new) ran happens, refl)
reached-more (one ∷ events) event first old new (mid, happened, ran) happens =
    (mid, happened, reached-more events event mid old new ran happens)

pub joined : (one other rest : List ℕ) → one ++ (other ++ rest) ≡ (one ++ other) ++ rest
joined [] other rest = refl
joined (x ∷ one) other rest = ap (λ (l : List ℕ). x ∷ l) (joined one other rest)

-- What steps under one hash don't change under other hashes, and what is true of each table.
pub record Leaves (hash : ServiceHash) (old new : Contents) : Type 0 where
  pub reached : IsReached new
  pub less : old.next ≤ new.next
  pub aside : (other : ServiceHash) → hash.digest ≢ other.digest → IsElsewhere other old new

-- what an event under a hash leaves
pub left-by : (event : Event) (old new : Contents) → IsReached old → Happens old event new → Leaves (hash_of event) old new
left-by event old new was happens =
    let change : Change event (hash_of event) old new = changes old new event happens in
    record {
      reached = record {
        id = was.id;
        events = was.events ++ event ∷ [];
        ran = reached-more was.events event (empty_table was.id) old new was.ran happens;
      };
      less = rises event (hash_of event) old new change;
      aside = λ other differ. elsewhere (hash_of event) other differ old new event change;
    }

pub left-then : (hash : ServiceHash) (old mid new : Contents) → Leaves hash old mid → Leaves hash mid new → Leaves hash old new
left-then hash old mid new one two = record {
  reached = two.reached;
  less = omega (arith, one.less, two.less);
  aside = λ other differ. record {
    entry = (two.aside other differ).entry ∙ (one.aside other differ).entry;
    segment = λ number. (two.aside other differ).segment number ∙ (one.aside other differ).segment number;
  };
}

pub left-none : (hash : ServiceHash) (old new : Contents) → IsReached old → new ≡ old → Leaves hash old new
left-none hash old new was is = rw is
    (record { reached = was; less = omega arith; aside = λ other differ. record { entry = refl; segment = λ number. refl } })

module _ (types : MessageTypeDetails) (pattern : MessagingPattern) (name : List ℕ) (own : OwnHash pattern name) where
  abbrev pub hash : ServiceHash
  hash = service_hash_of pattern name

  -- what comes of a list of steps
  abbrev pub Result_of : Result (Unit {0}) AllocError → List ForeignStep → Contents → List ℕ → Phase → Type 0
  Result_of (Ok happened) steps new taken phase = (more : List ℕ)
      × PhaseStands pattern name new (more ++ taken) (fold (acted types pattern) phase steps)
  Result_of (Err lacking) steps new taken phase =
      (more : List ℕ) × (done : ℕ) × (done < length steps)
      × PhaseStands pattern name new (more ++ taken) (fold (acted types pattern) phase (take done steps))

  pub acts-all : (steps : List ForeignStep) (old new : Contents) (taken : List ℕ) (phase : Phase) (result : Result (Unit {0}) AllocError)
      → IsReached old → AllByRecursion (HasStepForm types name) steps → old.next + length steps < 2 ^ 64
      → PhaseStands pattern name old taken phase → ActsAll hash (map (table_step_of types name) steps) old result new
      → Leaves hash old new × Result_of result steps new taken phase
  acts-all [] old new taken phase (Ok happened) was form room stands h = (left-none hash old new was h.1, ([], rw h.1 stands))
  acts-all [] old new taken phase (Err lacking) was form room stands h = absurd (differ h.0)
    where
      differ : ◌≡◌ {A = Result (Unit {0}) AllocError} (Err lacking) (Ok tt) → ⊥
      differ e = cc
  acts-all (one ∷ steps) old new taken phase result was form room stands (mid, first, acts, rest) =
      goes first (acts-there types pattern name old mid taken one phase first (reached old was) form.0 own (omega (arith, room)) stands
      acts)
      result rest (λ after_taken after now_form now_room now_stands now_acts.
      acts-all steps mid new after_taken after result
      (left-by (Steps hash (table_step_of types name one)) old mid was (first, acts)).reached now_form now_room now_stands now_acts)
    where
      left : Leaves hash old mid
      left = left-by (Steps hash (table_step_of types name one)) old mid was (first, acts)

      bound : mid.next ≤ old.next + 1
      bound = grows (Steps hash (table_step_of types name one)) hash old mid
          (changes old mid (Steps hash (table_step_of types name one)) (first, acts))

      longer : (result : Result (Unit {0}) AllocError) (more : List ℕ)
          → Result_of result steps new (more ++ taken) (acted types pattern phase one)
          → Result_of result (one ∷ steps) new taken phase
      longer (Ok happened) more later = (
        later.0 ++ more,
        subst (λ (l : List ℕ). PhaseStands pattern name new l (fold (acted types pattern) phase (one ∷ steps)))
            (joined later.0 more taken) later.1,
      )
      longer (Err lacking) more later = (
        later.0 ++ more,
        suc later.1,
        omega (arith, later.2),
        subst (λ (l : List ℕ). PhaseStands pattern name new l (fold (acted types pattern) phase (take (suc later.1) (one ∷ steps))))
            (joined later.0 more taken) later.3,
      )

      goes : (first : Result (Unit {0}) AllocError) → After types pattern name old mid taken first phase (acted types pattern phase one)
          → (result : Result (Unit {0}) AllocError)
          → GoesOn first (ActsAll hash (map (table_step_of types name) steps) mid result new) ((result ≡ first) × (new ≡ mid))
          → ((numbers : List ℕ) (now : Phase) → AllByRecursion (HasStepForm types name) steps → mid.next + length steps < 2 ^ 64
          → PhaseStands pattern name mid numbers now → ActsAll hash (map (table_step_of types name) steps) mid result new
          → Leaves hash mid new × Result_of result steps new numbers now)
          → Leaves hash old new × Result_of result (one ∷ steps) new taken phase
      goes (Ok happened) after result h more =
          let later = more (after.0 ++ taken) (acted types pattern phase one) form.1 (omega (arith, bound, room)) after.1 h in
          (left-then hash old mid new left later.0, longer result after.0 later.1)
      goes (Err lacking) after result h more =
          (rw h.1 left, rw h.0 ([], 0, omega arith, rw h.1 after))

-- ---- all phases

pub name-is : (one other : List ℕ) → bytes_eq one other ≡ true → one ≡ other
name-is one other e = same_text one other (sym e)

module _ (names : List (List ℕ)) (own : HaveOwnHashes names) (pattern : MessagingPattern) (name : List ℕ) (asked : IsAmong names name)
    (taken : MessagingPattern → List ℕ → List ℕ) where
  pub own-hash : (one : MessagingPattern) → service_hash_of one name ≡ service_hash_of pattern name → one ≡ pattern
  own-hash one same = (own one pattern name name asked asked same).0

  -- the numbers that were taken, where more were for one pattern and name
  abbrev pub later : List ℕ → MessagingPattern → List ℕ → List ℕ
  later more one other = cond (same_pattern one pattern && bytes_eq other name) (more ++ taken pattern name) (taken one other)

  pub named : (one : MessagingPattern) (other : List ℕ) → (same_pattern one pattern && bytes_eq other name) ≡ true → (one ≡ pattern)
      × (other ≡ name)
  named one other is = let split = both _ _ is in (pattern-is one pattern split.0, name-is other name split.1)

  unnamed : (one : MessagingPattern) (other : List ℕ) → (same_pattern one pattern && bytes_eq other name) ≡ false → IsAmong names other
      → (service_hash_of pattern name).digest ≢ (service_hash_of one other).digest
  unnamed one other isnt among same =
      let both_same = own pattern one name other asked among (hash-from (service_hash_of pattern name) (service_hash_of one other) same) in
      absurd (true≢false
      (sym (subst (λ (p : MessagingPattern). (same_pattern p pattern && bytes_eq other name) ≡ true) both_same.0
      (subst (λ (n : List ℕ). (same_pattern pattern pattern && bytes_eq n name) ≡ true) both_same.1
      (and-true _ _ (pattern-itself pattern) (name-itself name)))) ∙ isnt))

  pub goes-on : (more : List ℕ) → GoOn taken (later more)
  goes-on more one other = there (same_pattern one pattern && bytes_eq other name) refl
    where
      there : (b : Bool) → (same_pattern one pattern && bytes_eq other name) ≡ b
          → (x : List ℕ) × (cond b (more ++ taken pattern name) (taken one other) ≡ x ++ taken one other)
      there true is =
          let same = named one other is in (
            more,
            ap (λ (l : List ℕ). more ++ l)
                (sym (ap (λ (p : MessagingPattern). taken p other) same.0 ∙ ap (λ (n : List ℕ). taken pattern n) same.1)),
          )
      there false is = ([], refl)

  module _ {T : Type 0} (old new : Contents) (state : State T) (stands : TableStands names taken old state)
      (left : Leaves (service_hash_of pattern name) old new) where
    pub all-stand : (more : List ℕ) (phase : Phase) → PhaseStands pattern name new (more ++ taken pattern name) phase
        → TableStands names (later more) new (with_phase pattern name phase state)
    all-stand more phase so = record {
      reached = left.reached;
      phases = λ one other among. there one other among (same_pattern one pattern && bytes_eq other name) refl;
    }
      where
        there : (one : MessagingPattern) (other : List ℕ) → IsAmong names other → (b : Bool)
            → (same_pattern one pattern && bytes_eq other name) ≡ b
            → PhaseStands one other new (cond b (more ++ taken pattern name) (taken one other)) (cond b phase (state.phases one other))
        there one other among true is =
            let same = named one other is in
            subst (λ (p : MessagingPattern). PhaseStands p other new (more ++ taken pattern name) phase) (sym same.0)
            (subst (λ (n : List ℕ). PhaseStands pattern n new (more ++ taken pattern name) phase) (sym same.1) so)
        there one other among false isnt =
            stays one other old new (taken one other) (left.aside (service_hash_of one other) (unnamed one other isnt among)) left.less
            (state.phases one other) (stands.phases one other among)

module _ (T : Type 0) where
  pub steps-match : ForeignStepsMatch T
  steps-match names types pattern name steps taken old new (Ok happened) state own asked form room stands h =
      let all = acts-all types pattern name (own-hash names own pattern name asked taken) steps old new (taken pattern name)
      (state.phases pattern name)
      (Ok happened) stands.reached form room (stands.phases pattern name asked) h in (
        later names own pattern name asked taken all.1.0,
        goes-on names own pattern name asked taken all.1.0,
        all-stand names own pattern name asked taken old new state stands all.0 all.1.0 _ all.1.1,
      )
  steps-match names types pattern name steps taken old new (Err lacking) state own asked form room stands h =
      let all = acts-all types pattern name (own-hash names own pattern name asked taken) steps old new (taken pattern name)
      (state.phases pattern name)
      (Err lacking) stands.reached form room (stands.phases pattern name asked) h in (
        later names own pattern name asked taken all.1.0,
        goes-on names own pattern name asked taken all.1.0,
        (all.1.1, all.1.2, all-stand names own pattern name asked taken old new state stands all.0 all.1.0 _ all.1.3),
      )

  pub command-matches : (choices : Choices T) → ForeignMatches T choices
  command-matches choices names types buffer pattern name steps taken old new (Ok happened) state own asked form room stands h =
      let done = steps-match names types pattern name steps taken old new (Ok happened) state own asked form room stands h in (
        done.0,
        done.1,
        with_phase pattern name (fold (acted types pattern) (state.phases pattern name) steps) state,
        inl (refl, refl),
        done.2,
      )
  command-matches choices names types buffer pattern name steps taken old new (Err lacking) state own asked form room stands h =
      let done = steps-match names types pattern name steps taken old new (Err lacking) state own asked form room stands h in (
        done.0,
        done.1,
        with_phase pattern name (fold (acted types pattern) (state.phases pattern name) (take done.2.0 steps)) state,
        inr (done.2.0, lt-ltb _ _ done.2.1, (refl, refl)),
        done.2.2,
      )
