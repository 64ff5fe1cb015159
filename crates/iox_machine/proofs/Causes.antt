-- Which messages a subscriber is due to get from a publisher, and that each of them was received, is on its way, or was lost for a cause.
use Rattle.std.proofs.Common.{◌≡◌, ◌⊎◌, ◌≤◌, ◌+◌, ◌-◌, ℕ, zero, suc, Bool, true, false, cond, not, ◌&&◌, ◌||◌, List, [], ◌∷◌, ◌++◌, length}
use Rattle.std.proofs.Common.{drop, take, Option, None, Some, refl, sym, ap, subst, inl, inr, arith, ◌∙◌, append_assoc, append-nil}
use Rattle.std.proofs.lemmas.Bool.{cases_Bool, eq-eqb, eqb-true, eqb-false, leb-false, or_from, or_left, or_right, or_parts}
use Rattle.std.specs.List.{AllByRecursion}
use Rattle.std.specs.Option.{option_map_or}
use Rattle.std.specs.Prelude.{◌==◌, ◌<◌, is_some, nat_le, slice_get, unwrap_or}
use Rattle.iox_machine.proofs.Cases.{never-some, same-some}
use Rattle.iox_machine.proofs.Delivering.{deliver, first_of, offered}
use Rattle.iox_machine.proofs.Frames.{box-aside, box-same, waiting_in}
use Rattle.iox_machine.proofs.Gaps.{part-not-among}
use Rattle.iox_machine.proofs.Lists.{all-both, all-joined, all-weaker}
use Rattle.iox_machine.proofs.Losses.{all-front, among-joined}
use Rattle.iox_machine.proofs.Order.{absurd-both}
use Rattle.iox_machine.proofs.OrderLaws.{all-behind}
use Rattle.iox_machine.proofs.Shorthands.{taken}
use Rattle.iox_machine.proofs.Parts.{Once, once-past, once-tail, part-last, part-newest, part-front}
use Rattle.iox_machine.specs.LossLaws.{takes_it}
use Rattle.iox_machine.specs.Mailbox.{Mailbox, newest, put}
use Rattle.iox_machine.specs.Message.{Message}
use Rattle.iox_machine.specs.MessageLaws.{IsPartOf}
use Rattle.iox_machine.specs.PortList.{those}
use Rattle.iox_machine.specs.SequenceLaws.{has_message, still_brought}
use Rattle.iox_machine.specs.Service.{Send, Service, mailbox, with_mailbox}
use Rattle.iox_machine.specs.Table.{contains}
use Rattle.iox_command.specs.DomainValues.declared.backpressure.BackpressureDecision.{BackpressureDecision}
use Rattle.iox_command.specs.DomainValues.declared.backpressure.BackpressureDecision.TheVariants.{Retry, DiscardData, DiscardDataAndFail}

-- ---- the newest of a list

drop-none : {X : Type 0} (xs : List X) → drop (length xs) xs ≡ []
drop-none [] = refl
drop-none (x ∷ xs) = drop-none xs

pub newest-none : {X : Type 0} (xs : List X) → newest 0 xs ≡ []
newest-none xs = subst (λ (n : ℕ). drop n xs ≡ []) (same (length xs)) (drop-none xs)
  where
    same : (n : ℕ) → n ≡ n - 0
    same n = omega arith

newest-all : {X : Type 0} (limit : ℕ) (xs : List X) → length xs ≤ limit → newest limit xs ≡ xs
newest-all limit xs fits = ap (λ (n : ℕ). drop n xs) (none (length xs) limit fits)
  where
    none : (n limit : ℕ) → n ≤ limit → n - limit ≡ 0
    none n limit h = omega (arith, h)

taken-dropped : {X : Type 0} (n : ℕ) (xs : List X) → take n xs ++ drop n xs ≡ xs
taken-dropped zero xs = refl
taken-dropped (suc n) [] = refl
taken-dropped (suc n) (x ∷ xs) = ap (λ (l : List _). x ∷ l) (taken-dropped n xs)

-- what isn't among the newest, and the newest
pub older-newest : {X : Type 0} (limit : ℕ) (xs : List X) → take (length xs - limit) xs ++ newest limit xs ≡ xs
older-newest limit xs = taken-dropped (length xs - limit) xs

pub part-itself : {X : Type 0} (xs : List X) → IsPartOf xs xs
part-itself [] = refl
part-itself (x ∷ xs) = inr (xs, refl, part-itself xs)

length-last : {X : Type 0} (xs : List X) (x : X) → length (xs ++ x ∷ []) ≡ length xs + 1
length-last [] x = refl
length-last (y ∷ xs) x = up (length (xs ++ x ∷ [])) (length xs) (length-last xs x)
  where
    up : (n k : ℕ) → n ≡ k + 1 → suc n ≡ suc k + 1
    up n k e = omega (arith, e)

head-waits : {X : Type 0} (xs : List X) (x : X) → slice_get xs 0 ≡ Some x → xs ≡ x ∷ drop 1 xs
head-waits [] x e = never-some x e
head-waits (y ∷ xs) x e = ap (λ (it : _). it ∷ xs) (same-some y x e)

never-last : {X : Type 0} {A : Type 0} (xs : List X) (x : X) → xs ++ x ∷ [] ≡ [] → A
never-last xs x e = absurd (none (length xs) (sym (length-last xs x) ∙ ap length e))
  where
    none : (n : ℕ) → n + 1 ≡ 0 → ⊥
    none n h = omega (arith, h)

pub front-none : {X : Type 0} (xs ys : List X) → xs ++ ys ≡ [] → xs ≡ []
front-none [] ys e = refl
front-none (x ∷ xs) ys e = absurd (none (length (xs ++ ys)) (ap length e))
  where
    none : (n : ℕ) → suc n ≡ 0 → ⊥
    none n h = omega (arith, h)

module _ {T : Type 0} where
  pub all-among : (xs : List (Message T)) → AllByRecursion (λ x. has_message xs x ≡ true) xs
  all-among [] = tt
  all-among (x ∷ xs) = (
    or_left (x.number == x.number) (has_message xs x) (eq-eqb x.number x.number refl),
    all-weaker (λ y. has_message xs y ≡ true) (λ y. has_message (x ∷ xs) y ≡ true)
        (λ y is. or_right (x.number == y.number) (has_message xs y) is) xs (all-among xs),
  )

  pub none-among : (x : Message T) (xs ys : List (Message T)) → has_message (xs ++ ys) x ≡ false
      → (has_message xs x ≡ false) × (has_message ys x ≡ false)
  none-among x xs ys off = or_parts (has_message xs x) (has_message ys x) (sym (among-joined x xs ys) ∙ off)

  pub among-either : (x : Message T) (xs ys : List (Message T)) → has_message (xs ++ ys) x ≡ true → has_message xs x ≡ false
      → has_message ys x ≡ true
  among-either x xs ys is off = sym (ap (λ (b : Bool). b || has_message ys x) off) ∙ (sym (among-joined x xs ys) ∙ is)

  pub among-front : (x : Message T) (xs ys : List (Message T)) → has_message xs x ≡ true → has_message (xs ++ ys) x ≡ true
  among-front x xs ys is = among-joined x xs ys ∙ or_left (has_message xs x) (has_message ys x) is

  pub among-back : (x : Message T) (xs ys : List (Message T)) → has_message ys x ≡ true → has_message (xs ++ ys) x ≡ true
  among-back x xs ys is = among-joined x xs ys ∙ or_right (has_message xs x) (has_message ys x) is

  pub itself : (x : Message T) → has_message (x ∷ []) x ≡ true
  itself x = or_left (x.number == x.number) false (eq-eqb x.number x.number refl)

  -- ---- a mailbox that takes a message

  dropped-last : (n : ℕ) (xs : List (Message T)) (m x : Message T) → n ≤ length xs → has_message (m ∷ []) x ≡ true
      → has_message (drop n (xs ++ m ∷ [])) x ≡ true
  dropped-last zero xs m x few is = among-back x xs (m ∷ []) is
  dropped-last (suc n) [] m x few is = absurd (never n few)
    where
      never : (n : ℕ) → suc n ≤ 0 → ⊥
      never n h = omega (arith, h)
  dropped-last (suc n) (y ∷ xs) m x few is = dropped-last n xs m x (less n (length xs) few) is
    where
      less : (n k : ℕ) → suc n ≤ suc k → n ≤ k
      less n k h = omega (arith, h)

  -- the last of the newest is missing only where none may be there
  unkept-last : (limit : ℕ) (xs : List (Message T)) (m x : Message T) → has_message (m ∷ []) x ≡ true
      → has_message (newest limit (xs ++ m ∷ [])) x ≡ false → limit ≡ 0
  unkept-last zero xs m x is off = refl
  unkept-last (suc limit) xs m x is off =
      absurd-both (has_message (newest (suc limit) (xs ++ m ∷ [])) x)
      (dropped-last (length (xs ++ m ∷ []) - suc limit) xs m x
      (few (length (xs ++ m ∷ [])) (length xs) limit (length-last xs m)) is) off
    where
      few : (n k limit : ℕ) → n ≡ k + 1 → n - suc limit ≤ k
      few n k limit e = omega (arith, e)

  -- what a mailbox is once a message was put there
  pub put-is : (overflows : Bool) (m : Message T) (box it : Mailbox T) → put overflows m box ≡ Some it
      → (it.limit ≡ box.limit) × (it.waiting ≡ newest box.limit (box.waiting ++ m ∷ []))
      × ((overflows ≡ true) ⊎ (it.waiting ≡ box.waiting ++ m ∷ []))
  put-is true m box it e =
      let same : record box { waiting = newest box.limit (box.waiting ++ m ∷ []) } ≡ it =
      same-some (record box { waiting = newest box.limit (box.waiting ++ m ∷ []) }) it e in (
        ap (λ (b : Mailbox T). b.limit) (sym same),
        ap (λ (b : Mailbox T). b.waiting) (sym same),
        inl refl,
      )
  put-is false m box it e = step (nat_le box.limit (length box.waiting)) refl e
    where
      step : (full : Bool) → nat_le box.limit (length box.waiting) ≡ full
          → cond full None (Some (record box { waiting = newest box.limit (box.waiting ++ m ∷ []) })) ≡ Some it
          → (it.limit ≡ box.limit) × (it.waiting ≡ newest box.limit (box.waiting ++ m ∷ []))
          × ((false ≡ true) ⊎ (it.waiting ≡ box.waiting ++ m ∷ []))
      step true is e = never-some it e
      step false is e =
          let same : record box { waiting = newest box.limit (box.waiting ++ m ∷ []) } ≡ it =
          same-some (record box { waiting = newest box.limit (box.waiting ++ m ∷ []) }) it e in (
            ap (λ (b : Mailbox T). b.limit) (sym same),
            ap (λ (b : Mailbox T). b.waiting) (sym same),
            inr (ap (λ (b : Mailbox T). b.waiting) (sym same)
                ∙ newest-all box.limit (box.waiting ++ m ∷ []) (room box.limit (length box.waiting) (length (box.waiting ++ m ∷ []))
                (leb-false box.limit (length box.waiting) is) (length-last box.waiting m))),
          )
        where
          room : (limit n k : ℕ) → n < limit → k ≡ n + 1 → k ≤ limit
          room limit n k h e = omega (arith, h, e)

  -- where a mailbox refuses one message it refuses each
  pub refuses-each : (overflows : Bool) (m x : Message T) (box : Mailbox T) → put overflows m box ≡ None
      → takes_it overflows x box ≡ false
  refuses-each overflows m x box e = step (not overflows && nat_le box.limit (length box.waiting)) refl e
    where
      step : (full : Bool) → (not overflows && nat_le box.limit (length box.waiting)) ≡ full
          → cond full None (Some (record box { waiting = newest box.limit (box.waiting ++ m ∷ []) })) ≡ None
          → takes_it overflows x box ≡ false
      step true is e =
          ap (λ (b : Bool). option_map_or (λ (after : Mailbox T). has_message after.waiting x)
          (cond b None (Some (record box { waiting = newest box.limit (box.waiting ++ x ∷ []) }))) false) is
      step false is e = never-some (record box { waiting = newest box.limit (box.waiting ++ m ∷ []) }) (sym e)

  -- a mailbox that has taken a message, and hasn't kept it, keeps none
  pub keeps-none : (overflows : Bool) (m x : Message T) (box it : Mailbox T) → put overflows m box ≡ Some it
      → has_message (m ∷ []) x ≡ true → has_message it.waiting x ≡ false → takes_it overflows x it ≡ false
  keeps-none overflows m x box it e is off =
      let told = put-is overflows m box it e in
      let none : box.limit ≡ 0 =
      unkept-last box.limit box.waiting m x is (sym (ap (λ (l : List (Message T)). has_message l x) told.1) ∙ off) in
      step (not overflows && nat_le it.limit (length it.waiting))
      (ap (λ (n : ℕ). newest n (it.waiting ++ x ∷ [])) (told.0 ∙ none) ∙ newest-none (it.waiting ++ x ∷ []))
    where
      step : (full : Bool) → newest it.limit (it.waiting ++ x ∷ []) ≡ []
          → option_map_or (λ (after : Mailbox T). has_message after.waiting x)
          (cond full None (Some (record it { waiting = newest it.limit (it.waiting ++ x ∷ []) }))) false ≡ false
      step true none = refl
      step false none = ap (λ (l : List (Message T)). has_message l x) none

module _ {T : Type 0} (p s : ℕ) where
  -- ---- what a send leaves at a subscriber

  -- the mailbox that there is, or one for no messages
  abbrev pub opened : Option (Mailbox T) → Mailbox T
  opened box = unwrap_or box (record { limit = 0; waiting = []; borrowed = [] })

  module _ (overflows : Bool) (message : Message T) where
    -- A send left the mailbox of a subscriber as it was, and the subscriber left or not as it was; or it came past the subscriber: its
    -- mailbox took the message, or refused it.
    abbrev pub Left : List ℕ → Option (Mailbox T) → Send T × Service T → Type 0
    Left left box after =
        (after.0.message ≡ message)
        × (((after.1.mailboxes p s ≡ box) × (contains after.0.left s ≡ contains left s))
        ⊎ ((contains left s ≡ true) × (contains after.0.left s ≡ false)
        × (((it : Mailbox T) × (put overflows message (opened box) ≡ Some it) × (after.1.mailboxes p s ≡ Some it))
        ⊎ ((put overflows message (opened box) ≡ None) × (after.1.mailboxes p s ≡ box)))))

    left-aside : (t : ℕ) (more : List ℕ) (box : Option (Mailbox T)) (after : Send T × Service T) → (t == s) ≡ false
        → Left more box after → Left (t ∷ more) box after
    left-aside t more box after other (told, inl (same, left)) =
        (told, inl (same, left ∙ sym (ap (λ (b : Bool). b || contains more s) other)))
    left-aside t more box after other (told, inr (is, gone, rest)) =
        (told, inr (ap (λ (b : Bool). b || contains more s) other ∙ is, gone, rest))

    left-put : (t : ℕ) (more : List ℕ) (box : Option (Mailbox T)) (it : Mailbox T) (after : Send T × Service T) → (t == s) ≡ true
        → contains more s ≡ false → put overflows message (opened box) ≡ Some it → Left more (Some it) after → Left (t ∷ more) box after
    left-put t more box it after here off took (told, inl (same, left)) =
        (told, inr (or_left (t == s) (contains more s) here, left ∙ off, inl (it, took, same)))
    left-put t more box it after here off took (told, inr (is, gone, rest)) = absurd-both (contains more s) is off

    left-past : (t : ℕ) (more : List ℕ) (box : Option (Mailbox T)) (after : Send T × Service T) → (t == s) ≡ true
        → contains more s ≡ false → put overflows message (opened box) ≡ None → Left more box after → Left (t ∷ more) box after
    left-past t more box after here off full (told, inl (same, left)) =
        (told, inr (or_left (t == s) (contains more s) here, left ∙ off, inr (full, same)))
    left-past t more box after here off full (told, inr (is, gone, rest)) = absurd-both (contains more s) is off

    passed-left : (t : ℕ) (more : List ℕ) (service : Service T) → put overflows message (mailbox p t service) ≡ None → Once s (t ∷ more)
        → (after : Send T × Service T) → Left more (service.mailboxes p s) after → Left (t ∷ more) (service.mailboxes p s) after
    passed-left t more service e once after rest = elim (cases_Bool (t == s)) [
      | inl here ↦ left-past t more (service.mailboxes p s) after here (once-past s t more here once)
          (subst (λ (k : ℕ). put overflows message (mailbox p k service) ≡ None) (eqb-true t s here) e) rest
      | inr other ↦ left-aside t more (service.mailboxes p s) after other rest
    ]

    offered-left : (t : ℕ) (more : List ℕ) (service : Service T) (met : Option (Mailbox T))
        → put overflows message (mailbox p t service) ≡ met
        → (decision : BackpressureDecision) (goes_on : Send T → Service T → Send T × Service T) (send : Send T) → Once s (t ∷ more)
        → send.message ≡ message → service.settings.enable_safe_overflow ≡ overflows
        → ((next : Send T) (mid : Service T) → next.message ≡ message → mid.settings.enable_safe_overflow ≡ overflows
        → Left more (mid.mailboxes p s) (goes_on next mid))
        → Left (t ∷ more) (service.mailboxes p s) (offered p met decision t more goes_on send service)
    offered-left t more service (Some it) e decision goes_on send once same so on =
        let next : Send T = record send { retries = 0; elapsed = 0; delivered = send.delivered + 1 } in
        let mid : Service T = with_mailbox p t it service in
        let rest : Left more (mid.mailboxes p s) (goes_on next mid) = on next mid same so in elim (cases_Bool (t == s)) [
          | inl here ↦ left-put t more (service.mailboxes p s) it (goes_on next mid) here (once-past s t more here once)
              (subst (λ (k : ℕ). put overflows message (mailbox p k service) ≡ Some it) (eqb-true t s here) e)
              (subst (λ (box : Option (Mailbox T)). Left more box (goes_on next mid))
              (subst (λ (k : ℕ). mid.mailboxes p k ≡ Some it) (eqb-true t s here) (box-same p t it service)) rest)
          | inr other ↦ left-aside t more (service.mailboxes p s) (goes_on next mid) other
              (subst (λ (box : Option (Mailbox T)). Left more box (goes_on next mid))
              (box-aside p t it service p s (λ is. eqb-false t s other (sym is))) rest)
        ]
    offered-left t more service None e Retry goes_on send once same so on = (same, inl (refl, refl))
    offered-left t more service None e DiscardData goes_on send once same so on =
        passed-left t more service e once (goes_on (record send { retries = 0; elapsed = 0 }) service)
        (on (record send { retries = 0; elapsed = 0 }) service same so)
    offered-left t more service None e DiscardDataAndFail goes_on send once same so on =
        passed-left t more service e once (goes_on (record send { retries = 0; elapsed = 0; fails = true }) service)
        (on (record send { retries = 0; elapsed = 0; fails = true }) service same so)

    pub deliver-left : (decisions : List BackpressureDecision) (left : List ℕ) (send : Send T) (service : Service T) → Once s left
        → send.message ≡ message → service.settings.enable_safe_overflow ≡ overflows
        → Left left (service.mailboxes p s) (deliver p decisions left send service)
    deliver-left decisions [] send service once same so = (same, inl (refl, refl))
    deliver-left decisions (t ∷ more) send service once same so =
        offered-left t more service (put service.settings.enable_safe_overflow send.message (mailbox p t service))
        (sym (ap (λ (b : Bool). put b send.message (mailbox p t service)) so
        ∙ ap (λ (m : Message T). put overflows m (mailbox p t service)) same))
        (first_of decisions) (deliver p (drop 1 decisions) more) send once same so
        (λ next mid its so_there. deliver-left (drop 1 decisions) more next mid (once-tail s t more once) its so_there)

  -- ---- what is due

  -- what is on its way in a mailbox, and by a send that may be blocked
  abbrev pub way_in : Option (Send T) → Option (Mailbox T) → List (Message T)
  way_in blocked box = waiting_in box ++ still_brought s blocked

  -- It is among some messages, or else it was lost.
  abbrev pub Fate : (Message T → Type 0) → List (Message T) → Message T → Type 0
  Fate D messages x = (has_message messages x ≡ true) ⊎ ((has_message messages x ≡ false) × D x)

  -- Of what was sent some part is due; what was received, and is last on its way, is part of that; and each that is due is among these, or
  -- was lost.
  abbrev pub IsSplit : (Message T → Type 0) → (sent received last early due after : List (Message T)) → Type 0
  IsSplit D sent received last early due after =
      (sent ≡ early ++ (due ++ after)) × IsPartOf (received ++ last) due
      × AllByRecursion (Fate D (received ++ last)) due

  abbrev pub Splits : (Message T → Type 0) → List (Message T) → List (Message T) → Type 0
  Splits D sent received =
      (last : List (Message T)) × (early : List (Message T)) × (due : List (Message T)) × (after : List (Message T))
      × IsSplit D sent received last early due after

  -- What is between a publisher and a subscriber: the history is what was sent last. Where they are connected all is due from some message
  -- on; where they aren't nothing is on its way.
  pub record Due (D : Message T → Type 0) (sent received history : List (Message T)) (connected : List (Option ℕ))
      (blocked : Option (Send T)) (box : Option (Mailbox T)) : Type 0 where
    pub older : List (Message T)
    pub kept : sent ≡ older ++ history
    pub last : List (Message T)
    pub early : List (Message T)
    pub due : List (Message T)
    pub after : List (Message T)
    pub split : IsSplit D sent received last early due after
    pub so : ((contains (those connected) s ≡ true) × (after ≡ []) × (last ≡ way_in blocked box))
        ⊎ ((contains (those connected) s ≡ false) × (way_in blocked box ≡ []))

  pub splits-due : (D : Message T → Type 0) (sent received history : List (Message T)) (connected : List (Option ℕ))
      (blocked : Option (Send T)) (box : Option (Mailbox T)) → Due D sent received history connected blocked box → Splits D sent received
  splits-due D sent received history connected blocked box d = (d.last, d.early, d.due, d.after, d.split)

  module _ (D E : Message T → Type 0) (on : (x : Message T) → D x → E x) where
    split-weaker : (sent received last early due after : List (Message T)) → IsSplit D sent received last early due after
        → IsSplit E sent received last early due after
    split-weaker sent received last early due after h = (
      h.0,
      h.1,
      all-weaker (Fate D (received ++ last)) (Fate E (received ++ last))
          (λ x it. elim it [
            | inl is ↦ inl is
            | inr lost ↦ inr (lost.0, on x lost.1)
          ]) due h.2,
    )

    pub splits-weaker : (sent received : List (Message T)) → Splits D sent received → Splits E sent received
    splits-weaker sent received (last, early, due, after, h) =
        (last, early, due, after, split-weaker sent received last early due after h)

    -- the same is on its way
    pub due-same : (sent received history : List (Message T)) (connected : List (Option ℕ)) (blocked next : Option (Send T))
        (box now : Option (Mailbox T)) → way_in next now ≡ way_in blocked box → Due D sent received history connected blocked box
        → Due E sent received history connected next now
    due-same sent received history connected blocked next box now same d = record {
      older = d.older;
      kept = d.kept;
      last = d.last;
      early = d.early;
      due = d.due;
      after = d.after;
      split = split-weaker sent received d.last d.early d.due d.after d.split;
      so = elim d.so [
        | inl is ↦ inl (is.0, is.1, is.2 ∙ sym same)
        | inr is ↦ inr (is.0, same ∙ is.1)
      ];
    }

    -- less is on its way, and what is lost has a cause
    pub due-fewer : (sent received history : List (Message T)) (connected : List (Option ℕ)) (blocked next : Option (Send T))
        (box now : Option (Mailbox T)) → ((whole : List (Message T)) → IsPartOf (received ++ way_in blocked box) whole
        → IsPartOf (received ++ way_in next now) whole)
        → (way_in blocked box ≡ [] → way_in next now ≡ [])
        → ((x : Message T) → has_message (way_in blocked box) x ≡ true → has_message (way_in next now) x ≡ false → E x)
        → Due D sent received history connected blocked box → Due E sent received history connected next now
    due-fewer sent received history connected blocked next box now fewer none lost d = elim d.so [
      | inl is ↦ record {
        older = d.older;
        kept = d.kept;
        last = way_in next now;
        early = d.early;
        due = d.due;
        after = d.after;
        split = (
          d.split.0,
          fewer d.due (subst (λ (l : List (Message T)). IsPartOf (received ++ l) d.due) is.2 d.split.1),
          all-weaker (Fate D (received ++ d.last)) (Fate E (received ++ way_in next now))
              (λ x it. elim it [
                | inl among ↦ still x (subst (λ (l : List (Message T)). has_message (received ++ l) x ≡ true) is.2 among)
                | inr was ↦ inr (
                  part-not-among x (received ++ way_in next now) (received ++ way_in blocked box)
                      (fewer (received ++ way_in blocked box) (part-itself (received ++ way_in blocked box)))
                      (subst (λ (l : List (Message T)). has_message (received ++ l) x ≡ false) is.2 was.0),
                  on x was.1,
                )
              ]) d.due d.split.2,
        );
        so = inl (is.0, is.1, refl);
      }
      | inr is ↦ record {
        older = d.older;
        kept = d.kept;
        last = d.last;
        early = d.early;
        due = d.due;
        after = d.after;
        split = split-weaker sent received d.last d.early d.due d.after d.split;
        so = inr (is.0, none is.1);
      }
    ]
      where
        still : (x : Message T) → has_message (received ++ way_in blocked box) x ≡ true → Fate E (received ++ way_in next now) x
        still x among = elim (cases_Bool (has_message (received ++ way_in next now) x)) [
          | inl there ↦ inl there
          | inr gone ↦
              let both : (has_message received x ≡ false) × (has_message (way_in next now) x ≡ false) =
              none-among x received (way_in next now) gone in
              inr (gone, lost x (among-either x received (way_in blocked box) among both.0) both.1)
        ]

    -- a message is taken
    pub taken-due : (sent received history : List (Message T)) (connected : List (Option ℕ)) (blocked : Option (Send T))
        (box : Option (Mailbox T)) (message : Message T) → slice_get (waiting_in box) 0 ≡ Some message
        → Due D sent received history connected blocked box
        → Due E sent (received ++ message ∷ []) history connected blocked (Some (taken (opened box)))
    taken-due sent received history connected blocked box message first d = elim d.so [
      | inl is ↦
          let same : received ++ d.last ≡ (received ++ message ∷ []) ++ way_in blocked (Some (taken (opened box))) =
          ap (λ (l : List (Message T)). received ++ l) is.2
          ∙ (ap (λ (l : List (Message T)). received ++ (l ++ still_brought s blocked)) (head-waits (waiting_in box) message first)
          ∙ sym (append_assoc received (message ∷ []) (way_in blocked (Some (taken (opened box)))))) in
          record {
            older = d.older;
            kept = d.kept;
            last = way_in blocked (Some (taken (opened box)));
            early = d.early;
            due = d.due;
            after = d.after;
            split = split-weaker sent (received ++ message ∷ []) (way_in blocked (Some (taken (opened box)))) d.early d.due d.after (
              d.split.0,
              subst (λ (l : List (Message T)). IsPartOf l d.due) same d.split.1,
              subst (λ (l : List (Message T)). AllByRecursion (Fate D l) d.due) same d.split.2,
            );
            so = inl (is.0, is.1, refl);
          }
      | inr is ↦ never-some message
          (sym (ap (λ (l : List (Message T)). slice_get l 0) (front-none (waiting_in box) (still_brought s blocked) is.1)) ∙ first)
    ]

  -- all that was sent from some message on is on its way, and nothing was received
  pub due-anew : (E : Message T → Type 0) (sent history : List (Message T)) (connected : List (Option ℕ)) (blocked : Option (Send T))
      (box : Option (Mailbox T)) (older early : List (Message T)) → sent ≡ older ++ history → sent ≡ early ++ way_in blocked box
      → contains (those connected) s ≡ true → Due E sent [] history connected blocked box
  due-anew E sent history connected blocked box older early kept is met = record {
    older = older;
    kept = kept;
    last = way_in blocked box;
    early = early;
    due = way_in blocked box;
    after = [];
    split = (
      is ∙ ap (λ (l : List (Message T)). early ++ l) (sym (append-nil (way_in blocked box))),
      part-itself (way_in blocked box),
      all-weaker (λ x. has_message (way_in blocked box) x ≡ true) (Fate E (way_in blocked box))
          (λ x among. inl among) (way_in blocked box) (all-among (way_in blocked box)),
    );
    so = inl (met, refl, refl);
  }

  -- ---- a send

  still-left : (message : Message T) (send : Send T) → send.message ≡ message
      → still_brought s (cond (is_some (slice_get send.left 0)) (Some send) None) ≡ cond (contains send.left s) (message ∷ []) []
  still-left message send same = step send.left refl
    where
      step : (left : List ℕ) → send.left ≡ left
          → still_brought s (cond (is_some (slice_get left 0)) (Some send) None) ≡ cond (contains left s) (message ∷ []) []
      step [] is = refl
      step (t ∷ more) is =
          ap (λ (l : List ℕ). cond (contains l s) (send.message ∷ []) []) is
          ∙ ap (λ (m : Message T). cond (contains (t ∷ more) s) (m ∷ []) []) same

  -- a send begins
  pub begun-due : (D : Message T → Type 0) (sent received history : List (Message T)) (connected : List (Option ℕ))
      (box : Option (Mailbox T)) (send : Send T) (size : ℕ) → send.left ≡ those connected
      → AllByRecursion (λ x. has_message (send.message ∷ []) x ≡ false) sent → Due D sent received history connected None box
      → Due D (sent ++ send.message ∷ []) received (newest size (history ++ send.message ∷ [])) connected (Some send) box
  begun-due D sent received history connected box send size all fresh d = elim d.so [
    | inl is ↦ record {
      older = d.older ++ take (length (history ++ send.message ∷ []) - size) (history ++ send.message ∷ []);
      kept = kept;
      last = waiting_in box ++ send.message ∷ [];
      early = d.early;
      due = d.due ++ send.message ∷ [];
      after = [];
      split = (
        ap (λ (l : List (Message T)). l ++ send.message ∷ []) (d.split.0
            ∙ ap (λ (l : List (Message T)). d.early ++ (d.due ++ l)) is.1
            ∙ ap (λ (l : List (Message T)). d.early ++ l) (append-nil d.due))
            ∙ (append_assoc d.early d.due (send.message ∷ [])
            ∙ ap (λ (l : List (Message T)). d.early ++ l) (sym (append-nil (d.due ++ send.message ∷ [])))),
        subst (λ (l : List (Message T)). IsPartOf l (d.due ++ send.message ∷ [])) (together is.2)
            (part-last send.message (received ++ d.last) d.due d.split.1),
        subst (λ (l : List (Message T)). AllByRecursion (Fate D l) (d.due ++ send.message ∷ [])) (together is.2)
            (all-joined (Fate D ((received ++ d.last) ++ send.message ∷ [])) d.due (send.message ∷ [])
            (all-both (Fate D (received ++ d.last)) (λ x. has_message (send.message ∷ []) x ≡ false)
            (Fate D ((received ++ d.last) ++ send.message ∷ []))
            (λ x it other. elim it [
              | inl among ↦ inl (among-front x (received ++ d.last) (send.message ∷ []) among)
              | inr lost ↦ inr (
                among-joined x (received ++ d.last) (send.message ∷ [])
                    ∙ or_from (has_message (received ++ d.last) x) (has_message (send.message ∷ []) x) lost.0 other,
                lost.1,
              )
            ]) d.due d.split.2
            (all-front (λ x. has_message (send.message ∷ []) x ≡ false) d.due d.after
            (all-behind (λ x. has_message (send.message ∷ []) x ≡ false) d.early (d.due ++ d.after)
            (subst (AllByRecursion (λ x. has_message (send.message ∷ []) x ≡ false)) d.split.0 fresh)))) (
              inl (among-back send.message (received ++ d.last) (send.message ∷ [])
                  (itself send.message)),
              tt,
            )),
      );
      so = inl (
        is.0,
        refl,
        ap (λ (b : Bool). waiting_in box ++ cond b (send.message ∷ []) [])
            (sym (ap (λ (l : List ℕ). contains l s) all ∙ is.0)),
      );
    }
    | inr is ↦ record {
      older = d.older ++ take (length (history ++ send.message ∷ []) - size) (history ++ send.message ∷ []);
      kept = kept;
      last = d.last;
      early = d.early;
      due = d.due;
      after = d.after ++ send.message ∷ [];
      split = (
        ap (λ (l : List (Message T)). l ++ send.message ∷ []) d.split.0
            ∙ (append_assoc d.early (d.due ++ d.after) (send.message ∷ [])
            ∙ ap (λ (l : List (Message T)). d.early ++ l) (append_assoc d.due d.after (send.message ∷ []))),
        d.split.1,
        d.split.2,
      );
      so = inr (
        is.0,
        ap (λ (b : Bool). waiting_in box ++ cond b (send.message ∷ []) []) (ap (λ (l : List ℕ). contains l s) all ∙ is.0) ∙ is.1,
      );
    }
  ]
    where
      kept : sent ++ send.message ∷ []
          ≡ (d.older ++ take (length (history ++ send.message ∷ []) - size) (history ++ send.message ∷ []))
          ++ newest size (history ++ send.message ∷ [])
      kept =
          ap (λ (l : List (Message T)). l ++ send.message ∷ []) d.kept
          ∙ (append_assoc d.older history (send.message ∷ [])
          ∙ (ap (λ (l : List (Message T)). d.older ++ l) (sym (older-newest size (history ++ send.message ∷ [])))
          ∙ sym (append_assoc d.older (take (length (history ++ send.message ∷ []) - size) (history ++ send.message ∷ []))
          (newest size (history ++ send.message ∷ [])))))

      together : d.last ≡ way_in None box
          → (received ++ d.last) ++ send.message ∷ [] ≡ received ++ (waiting_in box ++ send.message ∷ [])
      together is =
          ap (λ (l : List (Message T)). (received ++ l) ++ send.message ∷ []) (is ∙ append-nil (waiting_in box))
          ∙ append_assoc received (waiting_in box) (send.message ∷ [])

  -- A send goes on. What it makes leave a mailbox has a cause; unless nothing was received, and all that was sent from some message on is
  -- on its way.
  module _ (D E : Message T → Type 0) (on : (x : Message T) → D x → E x) (overflows : Bool) (sent received history : List (Message T))
      (connected : List (Option ℕ)) (send : Send T) (box : Option (Mailbox T)) (after : Send T × Service T) where
    abbrev left_blocked : Option (Send T)
    left_blocked = cond (is_some (slice_get after.0.left 0)) (Some after.0) None

    abbrev now : Option (Mailbox T)
    now = after.1.mailboxes p s

    abbrev pub MayDrop : Type 0
    MayDrop = (x : Message T) → has_message (still_brought s (Some send)) send.message ≡ true
        → has_message (waiting_in box) x ≡ true → has_message (way_in left_blocked now) x ≡ false → overflows ≡ true
        → waiting_in now ≡ newest (opened now).limit (waiting_in box ++ send.message ∷ []) → E x

    abbrev pub MayPass : Type 0
    MayPass = (x : Message T) → has_message (still_brought s (Some send)) x ≡ true → has_message (way_in left_blocked now) x ≡ false
        → contains (those connected) s ≡ true → takes_it overflows x (opened now) ≡ false → E x

    abbrev pub IsAnew : Type 0
    IsAnew = (received ≡ []) × ((e : List (Message T)) × (sent ≡ e ++ (waiting_in box ++ send.message ∷ [])))

    brings-it : contains send.left s ≡ true → way_in (Some send) box ≡ waiting_in box ++ send.message ∷ []
    brings-it is = ap (λ (b : Bool). waiting_in box ++ cond b (send.message ∷ []) []) is

    connected-so : Due D sent received history connected (Some send) box → contains send.left s ≡ true
        → contains (those connected) s ≡ true
    connected-so d is = elim d.so [
      | inl met ↦ met.0
      | inr apart ↦ never-last (waiting_in box) send.message (sym (brings-it is) ∙ apart.1)
    ]

    way-left : after.0.message ≡ send.message → contains after.0.left s ≡ false → now ≡ box
        → way_in left_blocked now ≡ waiting_in box ++ []
    way-left told gone as_was =
        ap (λ (o : Option (Mailbox T)). waiting_in o ++ still_brought s left_blocked) as_was
        ∙ ap (λ (l : List (Message T)). waiting_in box ++ l) (still-left send.message after.0 told
        ∙ ap (λ (b : Bool). cond b (send.message ∷ []) []) gone)

    pub goes-due : MayDrop ⊎ IsAnew → MayPass → Left overflows send.message send.left box after
        → Due D sent received history connected (Some send) box → Due E sent received history connected left_blocked now
    goes-due may pass (told, inl (same, left)) d =
        due-same D E on sent received history connected (Some send) left_blocked box now
        (ap (λ (o : Option (Mailbox T)). waiting_in o ++ still_brought s left_blocked) same
        ∙ ap (λ (l : List (Message T)). waiting_in box ++ l) (still-left send.message after.0 told
        ∙ ap (λ (b : Bool). cond b (send.message ∷ []) []) left)) d
    goes-due may pass (told, inr (is, gone, inr (full, same))) d =
        due-fewer D E on sent received history connected (Some send) left_blocked box now
        (λ whole h. subst (λ (l : List (Message T)). IsPartOf (received ++ l) whole)
        (sym (way-left told gone same ∙ append-nil (waiting_in box)))
        (part-front (received ++ waiting_in box) (still_brought s (Some send)) whole
        (subst (λ (l : List (Message T)). IsPartOf l whole)
        (sym (append_assoc received (waiting_in box) (still_brought s (Some send)))) h)))
        (λ none. way-left told gone same ∙ (append-nil (waiting_in box) ∙ front-none (waiting_in box) (still_brought s (Some send)) none))
        (λ x was now_off. pass x
        (among-either x (waiting_in box) (still_brought s (Some send)) was
        (none-among x (waiting_in box) [] (sym (ap (λ (l : List (Message T)). has_message l x) (way-left told gone same)) ∙ now_off)).0)
        now_off (connected-so d is)
        (ap (λ (o : Option (Mailbox T)). takes_it overflows x (opened o)) same
        ∙ refuses-each overflows send.message x (opened box) full)) d
    goes-due may pass (told, inr (is, gone, inl (it, took, same))) d = elim may [
      | inl dropping ↦ due-fewer D E on sent received history connected (Some send) left_blocked box now
          (λ whole h. subst (λ (l : List (Message T)). IsPartOf (received ++ l) whole)
          (sym (way_put ∙ append-nil (newest (opened box).limit (waiting_in box ++ send.message ∷ []))))
          (part-newest (opened box).limit received (waiting_in box ++ send.message ∷ []) whole
          (subst (λ (l : List (Message T)). IsPartOf (received ++ l) whole) before h)))
          (λ none. never-last (waiting_in box) send.message (sym before ∙ none))
          (λ x was off. elim (cases_Bool (has_message (waiting_in box) x)) [
            | inl waited ↦ dropping x
                (ap (λ (l : List (Message T)). has_message l send.message) brought ∙ itself send.message)
                waited off (overflowing x waited off)
                (ap (λ (o : Option (Mailbox T)). waiting_in o) same
                ∙ ((put-is overflows send.message (opened box) it took).1
                ∙ ap (λ (n : ℕ). newest n (waiting_in box ++ send.message ∷ []))
                (sym (ap (λ (o : Option (Mailbox T)). (opened o).limit) same ∙ (put-is overflows send.message (opened box) it took).0))))
            | inr unwaited ↦ pass x (among-either x (waiting_in box) (still_brought s (Some send)) was unwaited) off (connected-so d is)
                (ap (λ (o : Option (Mailbox T)). takes_it overflows x (opened o)) same
                ∙ keeps-none overflows send.message x (opened box) it took
                (sym (ap (λ (l : List (Message T)). has_message l x) brought)
                ∙ among-either x (waiting_in box) (still_brought s (Some send)) was unwaited)
                (sym (ap (λ (o : Option (Mailbox T)). has_message (waiting_in o) x) same)
                ∙ (none-among x (waiting_in now) (still_brought s left_blocked) off).0))
          ]) d
      | inr anew ↦ subst (λ (l : List (Message T)). Due E sent l history connected left_blocked now) (sym anew.0)
          (due-anew E sent history connected left_blocked now d.older
          (anew.1.0 ++ take (length (waiting_in box ++ send.message ∷ []) - (opened box).limit) (waiting_in box ++ send.message ∷ []))
          d.kept
          (anew.1.1
          ∙ (ap (λ (l : List (Message T)). anew.1.0 ++ l)
          (sym (older-newest (opened box).limit (waiting_in box ++ send.message ∷ [])))
          ∙ (sym (append_assoc anew.1.0
          (take (length (waiting_in box ++ send.message ∷ []) - (opened box).limit) (waiting_in box ++ send.message ∷ []))
          (newest (opened box).limit (waiting_in box ++ send.message ∷ [])))
          ∙ ap (λ (l : List (Message T)). (anew.1.0 ++ take (length (waiting_in box ++ send.message ∷ []) - (opened box).limit)
          (waiting_in box ++ send.message ∷ [])) ++ l)
          (sym (way_put ∙ append-nil (newest (opened box).limit (waiting_in box ++ send.message ∷ [])))))))
          (connected-so d is))
    ]
      where
        brought : still_brought s (Some send) ≡ send.message ∷ []
        brought = ap (λ (b : Bool). cond b (send.message ∷ []) []) is

        before : way_in (Some send) box ≡ waiting_in box ++ send.message ∷ []
        before = ap (λ (l : List (Message T)). waiting_in box ++ l) brought

        way_put : way_in left_blocked now ≡ newest (opened box).limit (waiting_in box ++ send.message ∷ []) ++ []
        way_put =
            ap (λ (o : Option (Mailbox T)). waiting_in o ++ still_brought s left_blocked) same
            ∙ (ap (λ (l : List (Message T)). it.waiting ++ l) (still-left send.message after.0 told
            ∙ ap (λ (b : Bool). cond b (send.message ∷ []) []) gone)
            ∙ ap (λ (l : List (Message T)). l ++ []) (put-is overflows send.message (opened box) it took).1)

        overflowing : (x : Message T) → has_message (waiting_in box) x ≡ true → has_message (way_in left_blocked now) x ≡ false
            → overflows ≡ true
        overflowing x waited off = elim (put-is overflows send.message (opened box) it took).2 [
          | inl so ↦ so
          | inr all ↦ absurd-both (has_message (waiting_in now) x)
              (ap (λ (l : List (Message T)). has_message l x) (ap (λ (o : Option (Mailbox T)). waiting_in o) same ∙ all)
              ∙ among-front x (waiting_in box) (send.message ∷ []) waited)
              (none-among x (waiting_in now) (still_brought s left_blocked) off).0
        ]
