-- What is true of a publisher is still true after each step.
use Rattle.std.proofs.Common.{rules, arith, ◌≡◌, ◌+◌, ◌-◌, ◌<◌, ◌≤◌, ◌∷◌, [], ◌++◌, ℕ, zero, suc, Bool, true, false, nat_lt, is_some}
use Rattle.std.proofs.Common.{List, length, get_or, set, take, drop, remove, Option, None, Some, Result, Ok, Err, IfOk, OnErr, ◌==◌, refl}
use Rattle.std.proofs.Common.{sym, subst, ap, ◌∙◌}
use Rattle.std.specs.Option.{option_to_list}
use Rattle.std.specs.declared.alloc.AllocError.{AllocError}
use Rattle.iox_domain_slots.specs.declared.stage.Stage.{Stage}
use Rattle.iox_domain_slots.specs.declared.stage.Stage.TheVariants as stage
use Rattle.iox_domain_slots.specs.Uses.{Uses, Connection, nobody, placed, connected, offered, taken, given_back, settled, ended, newest}
use Rattle.iox_domain_slots.specs.Uses.{dropped, begun, finished, connection_at, with_connection, welcomed, held, held_by, in_use}
use Rattle.iox_domain_slots.specs.Counting.{times}
use Rattle.iox_domain_slots.proofs.Counts.{one, times_append, times_cons, times_end}
use Rattle.iox_domain_slots.proofs.Publishing.{in_use_times}
use Rattle.iox_domain_ports.specs.MessagesSending.{Store, IsSender}

-- only the uses changed: what is lent is used no more often than before, and nothing else came into use
pub kept : {T U : Type 0} (store : Store T U) (old new : Uses ℕ ℕ) → IsSender store old → new.first ≡ old.first → new.size ≡ old.size
    → ((k : ℕ) → 0 < times k new.loans → (0 < times k old.loans) × (times k (in_use new) ≤ times k (in_use old)))
    → ((k : ℕ) → 0 < times k (in_use new) → 0 < times k (in_use old)) → IsSender store new
kept store old new is first size lent used = record {
  values = is.values ∙ sym total;
  written = is.written ∙ sym total;
  headers = is.headers ∙ sym total;
  values_size = is.values_size ∙ sym size;
  written_size = is.written_size ∙ sym size;
  room = is.room;
  segments = is.segments;
  most_segments = is.most_segments;
  marks = is.marks;
  sole = λ k loans. omega (arith, is.sole k (lent k loans).0, (lent k loans).1, in_use_times new k, loans);
  within = λ k inside. omega (arith, is.within k (used k inside), total);
}
  where
    total : new.first + new.size ≡ old.first + old.size
    total = omega (arith, first, size)

pub removed : (xs : List ℕ) (at k : ℕ) → at < length xs → times k (remove xs at) + one k (get_or xs at 0) ≡ times k xs
removed [] at k below = absurd (omega (arith, below))
removed (x ∷ xs) zero k below = omega (arith, times_cons k x xs)
removed (x ∷ xs) (suc at) k below = omega (arith, times_cons k x xs, times_cons k x (remove xs at), removed xs at k (omega (arith, below)))

fewer_removed : (xs : List ℕ) (at k : ℕ) → times k (remove xs at) ≤ times k xs
fewer_removed [] zero k = omega arith
fewer_removed [] (suc at) k = omega arith
fewer_removed (x ∷ xs) zero k = omega (arith, times_cons k x xs)
fewer_removed (x ∷ xs) (suc at) k = omega (arith, times_cons k x xs, times_cons k x (remove xs at), fewer_removed xs at k)

fewer_dropped : (n k : ℕ) (xs : List ℕ) → times k (drop n xs) ≤ times k xs
fewer_dropped zero k xs = omega arith
fewer_dropped (suc n) k [] = omega arith
fewer_dropped (suc n) k (x ∷ xs) = omega (arith, times_cons k x xs, fewer_dropped n k xs)

-- of a connection that changed more may be held, by n
held_change : (connections : List (Connection ℕ)) (index : ℕ) (connection : Connection ℕ) (k more : ℕ)
    → times k (held_by connection) ≤ times k (held_by (get_or connections index nobody)) + more
    → times k (held (set connections index connection)) ≤ times k (held connections) + more
held_change [] index connection k more few = omega arith
held_change (first ∷ rest) zero connection k more few =
    omega (arith, few, times_append k (held_by first) (held rest), times_append k (held_by connection) (held rest))
held_change (first ∷ rest) (suc index) connection k more few =
    omega (
      arith,
      held_change rest index connection k more few,
      times_append k (held_by first) (held rest),
      times_append k (held_by first)
          (held (set rest index connection)),
    )

pub drop_kept : {T U : Type 0} (store : Store T U) (old : Uses ℕ ℕ) (at : ℕ) → IsSender store old → IsSender store (dropped at old)
drop_kept store old at is = kept store old (dropped at old) is refl refl
    (λ k loans. (
      omega (arith, loans, fewer_removed old.loans at k),
      omega
          (arith, fewer_removed old.loans at k, in_use_times old k, in_use_times (dropped at old) k),
    ))
    (λ k inside. omega (arith, inside, fewer_removed old.loans at k, in_use_times old k, in_use_times (dropped at old) k))

pub finish_kept : {T U : Type 0} (store : Store T U) (old : Uses ℕ ℕ) → IsSender store old → IsSender store (finished old)
finish_kept store old is = kept store old (finished old) is refl refl
    (λ k loans. (loans, omega (arith, in_use_times old k, in_use_times (finished old) k)))
    (λ k inside. omega (arith, inside, in_use_times old k, in_use_times (finished old) k))

-- the send of a loan begins
pub begin_kept : {T U : Type 0} (store : Store T U) (old : Uses ℕ ℕ) (at : ℕ) → at < length old.loans → old.sending ≡ None
    → IsSender store old
    → IsSender store (begun at (get_or old.loans at 0) old)
begin_kept store old at below alone is = kept store old (begun at (get_or old.loans at 0) old) is refl refl
    (λ k loans. (
      omega (arith, loans, fewer_removed old.loans at k),
      still k
          (is.sole k (omega (arith, loans, fewer_removed old.loans at k))) loans,
    ))
    (λ k inside. omega (
      arith,
      inside,
      uses k,
      in_use_times old k,
      none k,
      removed old.loans at k below,
      in_use_times
          (begun at (get_or old.loans at 0) old) k,
      remembered k,
    ))
  where
    remembered : (k : ℕ) → times k (newest old.kept (old.history ++ get_or old.loans at 0 ∷ []))
        ≤ times k old.history + one k (get_or old.loans at 0)
    remembered k = omega (
      arith,
      fewer_dropped (length (old.history ++ get_or old.loans at 0 ∷ []) - old.kept) k (old.history ++ get_or old.loans at 0 ∷ []),
      times_end k old.history (get_or old.loans at 0),
    )

    none : (k : ℕ) → times k (option_to_list old.sending) ≡ 0
    none k = ap (λ sending. times k (option_to_list sending)) alone

    uses : (k : ℕ) → times k (option_to_list (Some (get_or old.loans at 0))) ≡ one k (get_or old.loans at 0)
    uses k = omega (arith, times_cons k (get_or old.loans at 0) [])

    still : (k : ℕ) → times k (in_use old) ≡ 1 → 0 < times k (remove old.loans at)
        → times k (in_use (begun at (get_or old.loans at 0) old)) ≤ times k (in_use old)
    still k sole loans = omega (
      arith,
      sole,
      loans,
      uses k,
      none k,
      remembered k,
      in_use_times old k,
      in_use_times (begun at (get_or old.loans at 0) old) k,
      removed old.loans at k below,
    )

-- what is being sent is remembered
pub remember_kept : {T U : Type 0} (store : Store T U) (old : Uses ℕ ℕ) (slot : ℕ) → old.sending ≡ Some slot → IsSender store old
    → IsSender store (record old { history = newest old.kept (old.history ++ slot ∷ []) })
remember_kept store old slot sends is = kept store old after is refl refl
    (λ k loans. (loans, omega (arith, is.sole k loans, loans, remembered k, sent k, in_use_times old k, in_use_times after k)))
    (λ k inside. omega (arith, inside, remembered k, sent k, in_use_times old k, in_use_times after k))
  where
    after : Uses ℕ ℕ
    after = record old { history = newest old.kept (old.history ++ slot ∷ []) }

    remembered : (k : ℕ) → times k (newest old.kept (old.history ++ slot ∷ [])) ≤ times k old.history + one k slot
    remembered k = omega (
      arith,
      fewer_dropped (length (old.history ++ slot ∷ []) - old.kept) k (old.history ++ slot ∷ []),
      times_end k
          old.history slot,
    )

    sent : (k : ℕ) → times k (option_to_list old.sending) ≡ one k slot
    sent k = omega (arith, ap (λ sending. times k (option_to_list sending)) sends, times_cons k slot [])

-- what is being sent is remembered, if anything is
pub remembered_kept : {T U : Type 0} (store : Store T U) (old new : Uses ℕ ℕ) → IsSender store old
    → ((slot : ℕ) → old.sending ≡ Some slot → new ≡ record old { history = newest old.kept (old.history ++ slot ∷ []) })
    → (old.sending ≡ None → new ≡ old) → IsSender store new
remembered_kept store old new is made none = at old.sending refl
  where
    at : (sending : Option ℕ) → old.sending ≡ sending → IsSender store new
    at None idle = subst (IsSender store) (sym (none idle)) is
    at (Some slot) sends = subst (IsSender store) (sym (made slot sends)) (remember_kept store old slot sends is)

-- the history is forgotten
pub forget_kept : {T U : Type 0} (store : Store T U) (old : Uses ℕ ℕ) → IsSender store old → IsSender store (record old { history = [] })
forget_kept store old is = kept store old (record old { history = [] }) is refl refl
    (λ k loans. (loans, omega (arith, in_use_times old k, in_use_times (record old { history = [] }) k)))
    (λ k inside. omega (arith, inside, in_use_times old k, in_use_times (record old { history = [] }) k))

-- a connection changed: more is held of it only of what is sent or of the history
pub connection_kept : {T U : Type 0} (store : Store T U) (old : Uses ℕ ℕ) (index : ℕ) (connection : Connection ℕ) → IsSender store old
    → ((k : ℕ) → times k (held_by connection)
    ≤ times k (held_by (connection_at index old)) + (times k (option_to_list old.sending) + times k old.history))
    → IsSender store (with_connection index connection old)
connection_kept store old index connection is few = kept store old (with_connection index connection old) is refl refl
    (λ k loans. (
      loans,
      omega
          (arith, is.sole k loans, loans, more k, in_use_times old k, in_use_times (with_connection index connection old) k),
    ))
    (λ k inside. omega (arith, inside, more k, in_use_times old k, in_use_times (with_connection index connection old) k))
  where
    more : (k : ℕ) → times k (held (set old.connections index connection))
        ≤ times k (held old.connections) + (times k (option_to_list old.sending) + times k old.history)
    more k = held_change old.connections index connection k (times k (option_to_list old.sending) + times k old.history) (few k)

-- what is held of a connection after each step of it
pub offer_holds : (overflows : Bool) (slot : ℕ) (connection : Connection ℕ) (k : ℕ)
    → times k (held_by (offered overflows slot connection)) ≤ times k (held_by connection) + one k slot
offer_holds overflows slot connection k = at overflows (nat_lt (length connection.waiting) connection.limit) refl
  where
    at : (overflows room : Bool) → nat_lt (length connection.waiting) connection.limit ≡ room
        → times k (held_by (offered overflows slot connection)) ≤ times k (held_by connection) + one k slot
    at true true is = rw is
        (omega (
          arith,
          times_append k (connection.waiting ++ slot ∷ []) connection.borrowed,
          times_append k connection.waiting
              connection.borrowed,
          times_end k connection.waiting slot,
        ))
    at true false is = rw is
        (omega (
          arith,
          times_append k (drop 1 (connection.waiting ++ slot ∷ [])) connection.borrowed,
          times_append k connection.waiting
              connection.borrowed,
          times_end k connection.waiting slot,
          fewer_dropped 1 k (connection.waiting ++ slot ∷ []),
        ))
    at false true is = rw is
        (omega (
          arith,
          times_append k (connection.waiting ++ slot ∷ []) connection.borrowed,
          times_append k connection.waiting
              connection.borrowed,
          times_end k connection.waiting slot,
        ))
    at false false is = rw is (omega arith)

pub take_holds : (connection : Connection ℕ) (k : ℕ) → times k (held_by (taken connection)) ≡ times k (held_by connection)
take_holds connection k = omega (
  arith,
  times_append k (drop 1 connection.waiting) (connection.borrowed ++ take 1 connection.waiting),
  times_append k connection.borrowed (take 1 connection.waiting),
  times_append k connection.waiting connection.borrowed,
  parts connection.waiting,
)
  where
    parts : (xs : List ℕ) → times k (take 1 xs) + times k (drop 1 xs) ≡ times k xs
    parts [] = refl
    parts (x ∷ xs) = omega (arith, times_cons k x xs, times_cons k x [])

settled_holds : (now : Stage) (limit : ℕ) (waiting borrowed : List ℕ) (k : ℕ)
    → times k (held_by (settled now limit waiting borrowed)) ≤ times k waiting + times k borrowed
settled_holds stage.Vacant limit waiting borrowed k = omega (arith, times_append k waiting borrowed)
settled_holds stage.Live limit waiting borrowed k = omega (arith, times_append k waiting borrowed)
settled_holds stage.Ended limit waiting [] k = omega arith
settled_holds stage.Ended limit waiting (x ∷ borrowed) k = omega (arith, times_append k waiting (x ∷ borrowed))

pub give_back_holds : (at : ℕ) (connection : Connection ℕ) (k : ℕ)
    → times k (held_by (given_back at connection)) ≤ times k (held_by connection)
give_back_holds at connection k = omega (
  arith,
  settled_holds connection.stage connection.limit connection.waiting (remove connection.borrowed at) k,
  fewer_removed connection.borrowed at k,
  times_append k connection.waiting connection.borrowed,
)

pub end_holds : (connection : Connection ℕ) (k : ℕ) → times k (held_by (ended connection)) ≤ times k (held_by connection)
end_holds connection k
    = omega (
      arith,
      settled_holds stage.Ended connection.limit [] connection.borrowed k,
      times_append k connection.waiting
          connection.borrowed,
    )

pub welcome_holds : (history : List ℕ) (connection : Connection ℕ) (k : ℕ)
    → times k (held_by (welcomed history connection)) ≤ times k (held_by connection) + times k history
welcome_holds history connection k = omega (
  arith,
  times_append k (newest connection.limit history) connection.borrowed,
  times_append k connection.waiting connection.borrowed,
  fewer_dropped (length history - connection.limit) k history,
)

-- a message that is sent is offered
pub offer_kept : {T U : Type 0} (store : Store T U) (old new : Uses ℕ ℕ) (index : ℕ) → IsSender store old → is_some old.sending ≡ true
    → ((slot : ℕ) → old.sending ≡ Some slot → new ≡ with_connection index (offered old.overflows slot (connection_at index old)) old)
    → IsSender store new
offer_kept store old new index is sends made = at old.sending refl
  where
    at : (sending : Option ℕ) → old.sending ≡ sending → IsSender store new
    at None none = let wrong = sym (ap is_some none) ∙ sends in search (rules, wrong)
    at (Some slot) same = subst (λ uses. IsSender store uses) (sym (made slot same))
        (connection_kept store old index (offered old.overflows slot (connection_at index old)) is
        (λ k. omega (
          arith,
          offer_holds old.overflows slot (connection_at index old) k,
          ap (λ s. times k (option_to_list s)) same,
          times_cons k slot [],
        )))

nothing_behind : (connections : List (Connection ℕ)) (limit k : ℕ)
    → times k (held (connections ++ connected limit ∷ [])) ≡ times k (held connections)
nothing_behind [] limit k = refl
nothing_behind (first ∷ rest) limit k =
    omega (
      arith,
      nothing_behind rest limit k,
      times_append k (held_by first) (held rest),
      times_append k (held_by first)
          (held (rest ++ connected limit ∷ [])),
    )

place_holds : (connections : List (Connection ℕ)) (index limit k : ℕ)
    → times k (held (placed index (connected limit) connections)) ≤ times k (held connections)
place_holds connections index limit k = at (index == length connections) refl
  where
    at : (behind : Bool) → (index == length connections) ≡ behind
        → times k (held (placed index (connected limit) connections)) ≤ times k (held connections)
    at true is = rw is (omega (arith, nothing_behind connections limit k))
    at false is = rw is (omega (arith, held_change connections index (connected limit) k 0 (omega arith)))

-- a connection is made
pub connect_kept : {T U : Type 0} (store : Store T U) (old new : Uses ℕ ℕ) (limit : ℕ) (result : Result ℕ AllocError) → IsSender store old
    → IfOk result (λ index. new ≡ record old { connections = placed index (connected limit) old.connections })
    → OnErr result (new ≡ old) → IsSender store new
connect_kept store old new limit (Err error) is made refused = subst (IsSender store) (sym refused) is
connect_kept store old new limit (Ok index) is made refused = subst (IsSender store) (sym made) (kept store old after is refl refl
    (λ k loans. (loans, omega (arith, place_holds old.connections index limit k, in_use_times old k, in_use_times after k)))
    (λ k inside. omega (arith, inside, place_holds old.connections index limit k, in_use_times old k, in_use_times after k)))
  where
    after : Uses ℕ ℕ
    after = record old { connections = placed index (connected limit) old.connections }
