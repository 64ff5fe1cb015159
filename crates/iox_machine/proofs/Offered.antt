-- To whom a message went that some subscribers are offered, how many mailboxes took it, and where it waits.
use Rattle.std.proofs.Common.{◌≡◌, ◌≤◌, ◌<◌, ◌⊎◌, ◌+◌, ℕ, Bool, true, false, cond, not, ◌&&◌, ◌||◌, List, [], ◌∷◌, ◌++◌, length, Option}
use Rattle.std.proofs.Common.{None}
use Rattle.std.proofs.Common.{Some, refl, sym, ap, subst, inl, inr, arith, ◌∙◌, true≢false}
use Rattle.std.proofs.lemmas.Bool.{cases_Bool, eq-eqb, eqb-false, eqb-true, leb-false, leb-true, lt-ltb, ltb-true, or_left, or_parts}
use Rattle.std.specs.Option.{option_map_or}
use Rattle.std.specs.Prelude.{◌==◌, filter, nat_le, nat_lt, unwrap_or, MatchOption}
use Rattle.iox_machine.proofs.Cases.{both-true, by-bool, chosen, never-some}
use Rattle.iox_machine.proofs.Frames.{box-aside, box-same}
use Rattle.iox_machine.proofs.Order.{absurd-both}
use Rattle.iox_machine.proofs.Parts.{Once, once-past, once-tail}
use Rattle.iox_machine.specs.Choices.{Choices}
use Rattle.iox_machine.specs.DeliveredLaws.{GoesPast, IsOffered, MayBeDecided, MayWaitAt, counted_at, takers, takes_more}
use Rattle.iox_machine.specs.Mailbox.{Mailbox, newest, put}
use Rattle.iox_machine.specs.Message.{Message}
use Rattle.iox_machine.specs.PortList.{those}
use Rattle.iox_machine.specs.Sending.{Delivers, MayDecide}
use Rattle.iox_machine.specs.Service.{Publisher, Send, Service, Subscriber, mailbox, with_mailbox}
use Rattle.iox_machine.specs.Table.{at, contains}
use Rattle.iox_command.specs.DomainValues.Actions.{decision_of}
use Rattle.iox_command.specs.DomainValues.declared.backpressure.BackpressureDecision.{BackpressureDecision}
use Rattle.iox_command.specs.DomainValues.declared.backpressure.BackpressureDecision.TheVariants.{Retry, DiscardData, DiscardDataAndFail}

-- ---- lists

without-front : (t : ℕ) (xs ys : List ℕ) → contains (xs ++ ys) t ≡ false → (contains xs t ≡ false) × (contains ys t ≡ false)
without-front t [] ys e = (refl, e)
without-front t (x ∷ xs) ys e =
    let first = or_parts (x == t) (contains (xs ++ ys) t) e in
    let rest = without-front t xs ys first.1 in
    (ap (λ (b : Bool). b || contains xs t) first.0 ∙ rest.0, rest.1)

nothing-counted : (xs : List ℕ) → counted_at xs 0 ≡ 0
nothing-counted [] = refl
nothing-counted (x ∷ xs) = refl

-- ---- a full mailbox, and one that takes a message

module _ {T : Type 0} where
  abbrev is_full : Mailbox T → Bool
  is_full box = nat_le box.limit (length box.waiting)

  takes-none : (overflows : Bool) (message : Message T) (box : Mailbox T) → put overflows message box ≡ None
      → (overflows || nat_lt (length box.waiting) box.limit) ≡ false
  takes-none overflows message box e =
      elim (chosen (not overflows && is_full box) None
      (Some (record box { waiting = newest box.limit (box.waiting ++ message ∷ []) })) None e) [
        | inl w ↦ here overflows (both-true (not overflows) (is_full box) w.0)
        | inr w ↦ never-some (record box { waiting = newest box.limit (box.waiting ++ message ∷ []) }) (sym w.1)
      ]
    where
      less : nat_le box.limit (length box.waiting) ≡ true → nat_lt (length box.waiting) box.limit ≡ true → ⊥
      less full free = never (leb-true box.limit (length box.waiting) full) (ltb-true (length box.waiting) box.limit free)
        where
          never : box.limit ≤ length box.waiting → length box.waiting < box.limit → ⊥
          never h k = omega (arith, h, k)

      here : (b : Bool) → (not b ≡ true) × (is_full box ≡ true) → (b || nat_lt (length box.waiting) box.limit) ≡ false
      here true both = absurd (true≢false (sym both.0))
      here false both = elim (cases_Bool (nat_lt (length box.waiting) box.limit)) [
        | inl free ↦ absurd (less both.1 free)
        | inr off ↦ off
      ]

  takes-some : (overflows : Bool) (message : Message T) (box after : Mailbox T) → put overflows message box ≡ Some after
      → (overflows || nat_lt (length box.waiting) box.limit) ≡ true
  takes-some overflows message box after e =
      elim (chosen (not overflows && is_full box) None
      (Some (record box { waiting = newest box.limit (box.waiting ++ message ∷ []) })) (Some after) e) [
        | inl w ↦ never-some after w.1
        | inr w ↦ here overflows w.0
      ]
    where
      here : (b : Bool) → (not b && is_full box) ≡ false → (b || nat_lt (length box.waiting) box.limit) ≡ true
      here true off = refl
      here false off = lt-ltb (length box.waiting) box.limit (leb-false box.limit (length box.waiting) off)

  -- ---- what is offered

  module _ (number : ℕ) (message : Message T) where
    -- a mailbox once the message was put there, if that is possible
    abbrev put_so : Service T → Mailbox T → Mailbox T
    put_so service box = unwrap_or (put service.settings.enable_safe_overflow message box) box

    aside : (t s : ℕ) (box : Mailbox T) (service : Service T) → (s ≡ t → ⊥)
        → mailbox number s (with_mailbox number t box service) ≡ mailbox number s service
    aside t s box service off =
        ap (λ (o : Option (Mailbox T)). unwrap_or o (record { limit = 0; waiting = []; borrowed = [] }))
        (box-aside number t box service number s off)

    offered-none : (service : Service T) → IsOffered number message [] service service
    offered-none service p s = here (p == number) (mailbox p s service)
      where
        here : (b : Bool) (box : Mailbox T) → box ≡ cond (b && false) (put_so service box) box
        here true box = refl
        here false box = refl

    offered-full : (t : ℕ) (tried : List ℕ) (service after : Service T) → contains tried t ≡ false
        → put service.settings.enable_safe_overflow message (mailbox number t service) ≡ None
        → IsOffered number message tried service after → IsOffered number message (t ∷ tried) service after
    offered-full t tried service after past full on p s = here (p == number) refl (t == s) refl (on p s)
      where
        here : (b : Bool) → (p == number) ≡ b → (c : Bool) → (t == s) ≡ c
            → mailbox p s after ≡ cond (b && contains tried s) (put_so service (mailbox p s service)) (mailbox p s service)
            → mailbox p s after ≡ cond (b && (c || contains tried s)) (put_so service (mailbox p s service)) (mailbox p s service)
        here false off c is so = so
        here true same false other so = so
        here true same true is so =
            so
            ∙ (ap (λ (b : Bool). cond b (put_so service (mailbox p s service)) (mailbox p s service))
            (ap (contains tried) (sym (eqb-true t s is)) ∙ past)
            ∙ sym (ap (λ (o : Option (Mailbox T)). unwrap_or o (mailbox p s service))
            (ap (λ (k : ℕ). put service.settings.enable_safe_overflow message (mailbox k s service)) (eqb-true p number same)
            ∙ (ap (λ (k : ℕ). put service.settings.enable_safe_overflow message (mailbox number k service)) (sym (eqb-true t s is))
            ∙ full))))

    offered-one : (t : ℕ) (tried : List ℕ) (box : Mailbox T) (service after : Service T) → contains tried t ≡ false
        → put service.settings.enable_safe_overflow message (mailbox number t service) ≡ Some box
        → IsOffered number message tried (with_mailbox number t box service) after → IsOffered number message (t ∷ tried) service after
    offered-one t tried box service after past puts on p s = here (mailbox p s after) (p == number) refl (t == s) refl (on p s)
      where
        here : (now : Mailbox T) (b : Bool) → (p == number) ≡ b → (c : Bool) → (t == s) ≡ c
            → now ≡ cond (b && contains tried s) (put_so service (mailbox p s (with_mailbox number t box service)))
            (mailbox p s (with_mailbox number t box service))
            → now ≡ cond (b && (c || contains tried s)) (put_so service (mailbox p s service)) (mailbox p s service)
        here now false off c is so =
            so
            ∙ ap (λ (b : Bool). unwrap_or (cond (b && (s == t)) (Some box) (service.mailboxes p s))
            (record { limit = 0; waiting = []; borrowed = [] })) off
        here now true found false other so =
            subst (λ (it : Mailbox T). now ≡ cond (contains tried s) (put_so service it) it)
            (ap (λ (k : ℕ). mailbox k s (with_mailbox number t box service)) (eqb-true p number found)
            ∙ (aside t s box service (λ e. eqb-false t s other (sym e))
            ∙ ap (λ (k : ℕ). mailbox k s service) (sym (eqb-true p number found)))) so
        here now true found true is so =
            so
            ∙ (ap (λ (b : Bool). cond b (put_so service (mailbox p s (with_mailbox number t box service)))
            (mailbox p s (with_mailbox number t box service))) (ap (contains tried) (sym (eqb-true t s is)) ∙ past)
            ∙ (ap (λ (k : ℕ). mailbox k s (with_mailbox number t box service)) (eqb-true p number found)
            ∙ (ap (λ (k : ℕ). mailbox number k (with_mailbox number t box service)) (sym (eqb-true t s is))
            ∙ (ap (λ (o : Option (Mailbox T)). unwrap_or o (record { limit = 0; waiting = []; borrowed = [] }))
            (box-same number t box service)
            ∙ (sym (ap (λ (o : Option (Mailbox T)). unwrap_or o (mailbox number t service)) puts)
            ∙ (ap (λ (k : ℕ). put_so service (mailbox number k service)) (eqb-true t s is)
            ∙ ap (λ (k : ℕ). put_so service (mailbox k s service)) (sym (eqb-true p number found))))))))

    -- ---- how many took it

    took-one : (t : ℕ) (tried : List ℕ) (service : Service T) → takes_more service number t ≡ true
        → takers service number (t ∷ tried) ≡ takers service number tried + 1
    took-one t tried service is =
        ap (λ (b : Bool). length (cond b (t ∷ filter (takes_more service number) tried) (filter (takes_more service number) tried))) is
        ∙ omega arith

    took-none : (t : ℕ) (tried : List ℕ) (service : Service T) → takes_more service number t ≡ false
        → takers service number (t ∷ tried) ≡ takers service number tried
    took-none t tried service is =
        ap (λ (b : Bool). length (cond b (t ∷ filter (takes_more service number) tried) (filter (takes_more service number) tried))) is

    takes-aside : (t s : ℕ) (box : Mailbox T) (service : Service T) → (s ≡ t → ⊥)
        → takes_more (with_mailbox number t box service) number s ≡ takes_more service number s
    takes-aside t s box service off =
        ap (λ (it : Mailbox T). service.settings.enable_safe_overflow || nat_lt (length it.waiting) it.limit) (aside t s box service off)

    -- a number that a list hasn't is another than each that it has
    off : (t s : ℕ) (xs : List ℕ) → contains xs t ≡ false → contains xs s ≡ true → s ≡ t → ⊥
    off t s xs past is same = absurd-both (contains xs t) (ap (contains xs) (sym same) ∙ is) past

    takers-aside : (t : ℕ) (tried : List ℕ) (box : Mailbox T) (service : Service T) → contains tried t ≡ false
        → takers (with_mailbox number t box service) number tried ≡ takers service number tried
    takers-aside t tried box service past =
        ap length (alike tried past)
      where
        alike : (xs : List ℕ) → contains xs t ≡ false
            → filter (takes_more (with_mailbox number t box service) number) xs ≡ filter (takes_more service number) xs
        alike [] past = refl
        alike (x ∷ xs) past =
            let both = or_parts (x == t) (contains xs t) past in
            ap (λ (b : Bool). cond b (x ∷ filter (takes_more (with_mailbox number t box service) number) xs)
            (filter (takes_more (with_mailbox number t box service) number) xs))
            (takes-aside t x box service (λ same. true≢false (sym (eq-eqb x t same) ∙ both.0)))
            ∙ ap (λ (l : List ℕ). cond (takes_more service number x) (x ∷ l) l) (alike xs both.1)

    -- ---- which mailboxes it went past

    past-aside : (choices : Choices T) (one : Publisher T) (t : ℕ) (box : Mailbox T) (service : Service T) (tried : List ℕ)
        (retries elapsed : ℕ) (failed fails : Bool) → contains tried t ≡ false
        → GoesPast choices number one tried retries elapsed failed (with_mailbox number t box service) fails
        → GoesPast choices number one tried retries elapsed failed service fails
    past-aside choices one t box service [] retries elapsed failed fails past h = h
    past-aside choices one t box service (x ∷ tried) retries elapsed failed fails past h =
        let both = or_parts (x == t) (contains tried t) past in
        here (sym (takes-aside t x box service (λ same. true≢false (sym (eq-eqb x t same) ∙ both.0))))
        (λ was on. past-aside choices one t box service tried 0 0 was fails both.1 on) h
      where
        here : takes_more service number x ≡ takes_more (with_mailbox number t box service) number x
            → ((was : Bool) → GoesPast choices number one tried 0 0 was (with_mailbox number t box service) fails
            → GoesPast choices number one tried 0 0 was service fails)
            → GoesPast choices number one (x ∷ tried) retries elapsed failed (with_mailbox number t box service) fails
            → GoesPast choices number one (x ∷ tried) retries elapsed failed service fails
        here same goes (inl (takes, on)) = inl (same ∙ takes, goes failed on)
        here same goes (inr (inl (full, may, on))) = inr (inl (same ∙ full, may, goes failed on))
        here same goes (inr (inr (full, may, on))) = inr (inr (same ∙ full, may, goes true on))

    may-be : (choices : Choices T) (one : Publisher T) (t : ℕ) (send : Send T) (service : Service T) (decision : BackpressureDecision)
        → MayDecide choices number one t send service decision
        → MayBeDecided choices number one t send.retries send.elapsed service decision
    may-be choices one t send service decision may =
        by-bool (option_map_or (λ (it : Subscriber). it.stands && contains (those it.connected) number)
        (at t service.subscribers) false)
        (choices.publisher_decides number send.retries send.elapsed (decision_of one.strategy one.handler) decision)
        (decision ≡ DiscardData) may

    -- ---- a delivery

    -- What came of it: to whom the message went, who is left, how many took it, where it waits, and which mailboxes it went past.
    abbrev pub Came : (choices : Choices T) → Publisher T → List ℕ → Send T → Service T → Send T → Service T → Type 0
    Came choices one left send old after new =
        (tried : List ℕ) × (left ≡ tried ++ after.left) × IsOffered number message tried old new
        × (after.delivered ≡ send.delivered + takers old number tried)
        × (new ≡ record old { mailboxes = new.mailboxes }) × (after.message ≡ message)
        × ((after.left ≡ [])
        ⊎ ((subscriber : ℕ) × (more : List ℕ) × (after.left ≡ subscriber ∷ more)
        × MayWaitAt choices number one subscriber after.retries after.elapsed old
        × (after.retries ≡ counted_at tried send.retries) × (after.elapsed ≡ counted_at tried send.elapsed)))
        × GoesPast choices number one tried send.retries send.elapsed send.fails old after.fails

    came-one : (choices : Choices T) (one : Publisher T) (t : ℕ) (more : List ℕ) (box : Mailbox T) (send : Send T) (service : Service T)
        (after : Send T) (new : Service T) → contains more t ≡ false
        → put service.settings.enable_safe_overflow message (mailbox number t service) ≡ Some box
        → Came choices one more (record send { retries = 0; elapsed = 0; delivered = send.delivered + 1 })
        (with_mailbox number t box service) after new
        → Came choices one (t ∷ more) send service after new
    came-one choices one t more box send service after new past puts (tried, rest, on, count, same, told, ends, by) =
        let apart = without-front t tried after.left (ap (λ (l : List ℕ). contains l t) (sym rest) ∙ past) in (
          t ∷ tried,
          ap (λ (l : List ℕ). t ∷ l) rest,
          offered-one t tried box service new apart.0 puts on,
          sum after.delivered send.delivered (takers (with_mailbox number t box service) number tried) (takers service number tried)
              (takers service number (t ∷ tried)) count (takers-aside t tried box service apart.0)
              (took-one t tried service (takes-some service.settings.enable_safe_overflow message (mailbox number t service) box puts)),
          same,
          told,
          elim ends [
            | inl none ↦ inl none
            | inr (s, others, is, (counts, full, decided), retries, elapsed) ↦ inr (
              s,
              others,
              is,
              (
                counts,
                sym (takes-aside t s box service (off t s after.left apart.1
                    (ap (λ (l : List ℕ). contains l s) is ∙ or_left (s == s) (contains others s) (eq-eqb s s refl)))) ∙ full,
                decided,
              ),
              retries ∙ nothing-counted tried,
              elapsed ∙ nothing-counted tried,
            )
          ],
          inl (
            takes-some service.settings.enable_safe_overflow message (mailbox number t service) box puts,
            past-aside choices one t box service tried 0 0 send.fails after.fails apart.0 by,
          ),
        )
      where
        sum : (d x y z w : ℕ) → d ≡ (x + 1) + y → y ≡ z → w ≡ z + 1 → d ≡ x + w
        sum d x y z w h k l = omega (arith, h, k, l)

    came-past : (choices : Choices T) (one : Publisher T) (t : ℕ) (more : List ℕ) (fails : Bool) (send : Send T) (service : Service T)
        (after : Send T) (new : Service T) → contains more t ≡ false
        → put service.settings.enable_safe_overflow message (mailbox number t service) ≡ None
        → ((tried : List ℕ) → GoesPast choices number one tried 0 0 fails service after.fails
        → GoesPast choices number one (t ∷ tried) send.retries send.elapsed send.fails service after.fails)
        → Came choices one more (record send { retries = 0; elapsed = 0; fails = fails }) service after new
        → Came choices one (t ∷ more) send service after new
    came-past choices one t more fails send service after new past puts skips (tried, rest, on, count, same, told, ends, by) =
        let apart = without-front t tried after.left (ap (λ (l : List ℕ). contains l t) (sym rest) ∙ past) in (
          t ∷ tried,
          ap (λ (l : List ℕ). t ∷ l) rest,
          offered-full t tried service new apart.0 puts on,
          count ∙ ap (λ (n : ℕ). send.delivered + n)
              (sym (took-none t tried service (takes-none service.settings.enable_safe_overflow message (mailbox number t service) puts))),
          same,
          told,
          elim ends [
            | inl none ↦ inl none
            | inr (s, others, is, waits, retries, elapsed) ↦
                inr (s, others, is, waits, retries ∙ nothing-counted tried, elapsed ∙ nothing-counted tried)
          ],
          skips tried by,
        )

    pub delivers-came : (choices : Choices T) (one : Publisher T) (left : List ℕ) (send : Send T) (service : Service T) (after : Send T)
        (new : Service T) → ((s : ℕ) → Once s left) → send.message ≡ message → Delivers choices number one left send service after new
        → Came choices one left send service after new
    delivers-came choices one [] send service after new once same (is, stays) =
        subst (λ (it : Send T). Came choices one [] send service it new) (sym is)
        (subst (λ (it : Service T). Came choices one [] send service (record send { left = [] }) it) (sym stays)
        ([], refl, offered-none service, omega arith, refl, same, inl refl, refl))
    delivers-came choices one (t ∷ more) send service after new once same went =
        here (put service.settings.enable_safe_overflow send.message (mailbox number t service))
        (ap (λ (m : Message T). put service.settings.enable_safe_overflow m (mailbox number t service)) (sym same))
        (λ next mid is. delivers-came choices one more next mid after new (λ s. once-tail s t more (once s)) is) went
      where
        past : contains more t ≡ false
        past = once-past t t more (eq-eqb t t refl) (once t)

        full : put service.settings.enable_safe_overflow message (mailbox number t service) ≡ None → takes_more service number t ≡ false
        full puts = takes-none service.settings.enable_safe_overflow message (mailbox number t service) puts

        waits-here : MayDecide choices number one t send service Retry → put service.settings.enable_safe_overflow message
            (mailbox number t service) ≡ None → MayWaitAt choices number one t send.retries send.elapsed service
        waits-here may puts =
            elim (by-bool (option_map_or (λ (it : Subscriber). it.stands && contains (those it.connected) number)
            (at t service.subscribers) false)
            (choices.publisher_decides number send.retries send.elapsed (decision_of one.strategy one.handler) Retry)
            (Retry ≡ DiscardData) may) [
              | inl w ↦ (w.0, full puts, w.1)
              | inr w ↦ absurd (differ w.1)
            ]
          where
            differ : Retry ≡ DiscardData → ⊥
            differ e = cc

        here : (met : Option (Mailbox T)) → put service.settings.enable_safe_overflow message (mailbox number t service) ≡ met
            → ((next : Send T) (mid : Service T) → next.message ≡ message → Delivers choices number one more next mid after new
            → Came choices one more next mid after new)
            → MatchOption met
            ((MayDecide choices number one t send service Retry × (after ≡ record send { left = t ∷ more }) × (new ≡ service))
            ⊎ (MayDecide choices number one t send service DiscardData
            × Delivers choices number one more (record send { retries = 0; elapsed = 0 }) service after new)
            ⊎ (MayDecide choices number one t send service DiscardDataAndFail
            × Delivers choices number one more (record send { retries = 0; elapsed = 0; fails = true }) service after new))
            (λ box. Delivers choices number one more (record send { retries = 0; elapsed = 0; delivered = send.delivered + 1 })
            (with_mailbox number t box service) after new)
            → Came choices one (t ∷ more) send service after new
        here (Some box) puts on went =
            came-one choices one t more box send service after new past puts
            (on (record send { retries = 0; elapsed = 0; delivered = send.delivered + 1 }) (with_mailbox number t box service) same went)
        here None puts on (inl (may, is, stays)) =
            subst (λ (it : Send T). Came choices one (t ∷ more) send service it new) (sym is)
            (subst (λ (it : Service T). Came choices one (t ∷ more) send service (record send { left = t ∷ more }) it) (sym stays)
            ([], refl, offered-none service, omega arith, refl, same, inr (t, more, refl, waits-here may puts, refl, refl), refl))
        here None puts on (inr (inl (may, went))) =
            came-past choices one t more send.fails send service after new past puts
            (λ tried by. inr (inl (full puts, may-be choices one t send service DiscardData may, by)))
            (on (record send { retries = 0; elapsed = 0 }) service same went)
        here None puts on (inr (inr (may, went))) =
            came-past choices one t more true send service after new past puts
            (λ tried by. inr (inr (full puts, may-be choices one t send service DiscardDataAndFail may, by)))
            (on (record send { retries = 0; elapsed = 0; fails = true }) service same went)
