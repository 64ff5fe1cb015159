-- What a subscriber is due to get from a publisher stays so when that follows the list of subscribers.
use Rattle.std.proofs.Common.{◌≡◌, ◌⊎◌, ◌-◌, ℕ, Bool, true, false, cond, not, ◌&&◌, List, [], ◌++◌, length, take, map, Option, None, Some}
use Rattle.std.proofs.Common.{refl, sym, ap, subst, inl, inr, ◌∙◌, append_assoc, append-nil}
use Rattle.std.proofs.lemmas.Bool.{and_from, and_right, cases_Bool, eq-eqb, not-true, not-false}
use Rattle.std.specs.Prelude.{◌==◌, filter, fold, is_some, option_map}
use Rattle.iox_machine.specs.Mailbox.{Mailbox, newest}
use Rattle.iox_machine.specs.Message.{Message}
use Rattle.iox_machine.specs.PortList.{those, unless}
use Rattle.iox_machine.specs.PublisherUpdate as publishing
use Rattle.iox_machine.specs.Service.{Publisher, Send, Service}
use Rattle.iox_machine.specs.Table.{contains}
use Rattle.iox_machine.proofs.Cases.{both-true}
use Rattle.iox_machine.proofs.Causes.{Due, due-anew, front-none, older-newest, way_in}
use Rattle.iox_machine.proofs.Frames.{waiting_in}
use Rattle.iox_machine.proofs.Order.{Between, BetweenOf, Emptier, Given, absurd-both, emptier-none, ended-box, welcomes-box}
use Rattle.iox_machine.proofs.Shorthands.{with_publisher}
use Rattle.iox_machine.proofs.Parts.{all-contained, contains-filter, contains-unless}

module _ {T : Type 0} (p s : ℕ) where
  abbrev pub DueOf : (Message T → Type 0) → List (Message T) → List (Message T) → Publisher T → Service T → Type 0
  DueOf D sent received one service = Due p s D sent received one.history one.connected one.blocked (service.mailboxes p s)

  -- What waits after an update is what waited, or nothing; or nothing was received, and it is what was sent last.
  abbrev pub IsKept : List (Message T) → List (Message T) → Option (Mailbox T) → Option (Mailbox T) → Type 0
  IsKept sent received box now =
      (waiting_in now ≡ waiting_in box)
      ⊎ ((waiting_in now ≡ []) ⊎ ((received ≡ []) × ((e : List (Message T)) × (sent ≡ e ++ waiting_in now))))

  followed-due : (D : Message T → Type 0) (switch : Bool) (sent received : List (Message T)) (born : ℕ) (one : Publisher T)
      (box now : Option (Mailbox T)) (places : List (Option ℕ)) (refused : List ℕ)
      → (contains refused s ≡ true → (contains (those places) s && not (is_some box)) ≡ true)
      → (contains (those places) s ≡ true
      → (contains (those (map (unless refused) places)) s && not (contains (those one.connected) s)) ≡ false → now ≡ box)
      → (contains (those places) s ≡ false
      → (contains (those (map (unless refused) places)) s && not (contains (those one.connected) s)) ≡ false → waiting_in now ≡ [])
      → ((contains (those (map (unless refused) places)) s && not (contains (those one.connected) s)) ≡ false
      → Emptier p s box now)
      → ((contains (those (map (unless refused) places)) s && not (contains (those one.connected) s)) ≡ true
      → Given p s one.history now)
      → Between T s switch one.last_sequence sent received born one.history one.connected one.blocked box places
      → Due p s D sent received one.history one.connected None box
      → Due p s D sent received one.history (map (unless refused) places) None now × IsKept sent received box now
  followed-due D switch sent received born one box now places refused refuses stays ends old_one new_one b d =
      by-met (contains (those one.connected) s) refl (contains (those (map (unless refused) places)) s) refl
    where
      hit : contains (those (map (unless refused) places)) s ≡ (contains (those places) s && not (contains refused s))
      hit = contains-unless s refused places

      listed : contains (those (map (unless refused) places)) s ≡ true → contains (those places) s ≡ true
      listed is = (both-true (contains (those places) s) (not (contains refused s)) (sym hit ∙ is)).0

      older_so : (limit : ℕ) → sent
          ≡ (d.older ++ take (length one.history - limit) one.history) ++ newest limit one.history
      older_so limit =
          d.kept
          ∙ (ap (λ (l : List (Message T)). d.older ++ l) (sym (older-newest limit one.history))
          ∙ sym (append_assoc d.older (take (length one.history - limit) one.history) (newest limit one.history)))

      by-met : (c : Bool) → contains (those one.connected) s ≡ c → (e : Bool) → contains (those (map (unless refused) places)) s ≡ e
          → Due p s D sent received one.history (map (unless refused) places) None now × IsKept sent received box now
      by-met true met true is =
          let same : now ≡ box =
          stays (listed is) (and_right (contains (those (map (unless refused) places)) s) (not (contains (those one.connected) s))
          (ap not met)) in (
            record {
              older = d.older;
              kept = d.kept;
              last = d.last;
              early = d.early;
              due = d.due;
              after = d.after;
              split = d.split;
              so = elim d.so [
                | inl live ↦ inl (is, live.1, live.2 ∙ ap (λ (o : Option (Mailbox T)). way_in p s None o) (sym same))
                | inr apart ↦ absurd-both (contains (those one.connected) s) met apart.0
              ];
            },
            inl (ap waiting_in same),
          )
      by-met true met false is =
          let none : waiting_in now ≡ [] =
          ends unlisted (ap (λ (k : Bool). k && not (contains (those one.connected) s)) is) in (
            record {
              older = d.older;
              kept = d.kept;
              last = d.last;
              early = d.early;
              due = d.due;
              after = d.after;
              split = d.split;
              so = inr (is, ap (λ (l : List (Message T)). l ++ []) none);
            },
            inr (inl none),
          )
        where
          unlisted : contains (those places) s ≡ false
          unlisted = elim (cases_Bool (contains (those places) s)) [
            | inr off ↦ off
            | inl there ↦
                let out : contains refused s ≡ true =
                not-false (contains refused s) (ap (λ (k : Bool). k && not (contains refused s)) (sym there) ∙ (sym hit ∙ is)) in
                absurd-both (is_some box) (b.has_box met)
                (not-true (is_some box) (both-true (contains (those places) s) (not (is_some box)) (refuses out)).1)
          ]
      by-met false met true is =
          let none : received ≡ [] = (b.unmet (inr (listed is)) met).0 in
          let given : Given p s one.history now =
          new_one (and_from (contains (those (map (unless refused) places)) s) (not (contains (those one.connected) s)) is (ap not met)) in
          let early : List (Message T) = d.older ++ take (length one.history - given.0.0) one.history in
          let whole : sent ≡ early ++ waiting_in now =
          older_so given.0.0 ∙ ap (λ (l : List (Message T)). early ++ l) (sym given.0.1) in (
            subst (λ (l : List (Message T)). Due p s D sent l one.history (map (unless refused) places) None now) (sym none)
                (due-anew p s D sent one.history (map (unless refused) places) None now d.older early d.kept
                (whole ∙ ap (λ (l : List (Message T)). early ++ l) (sym (append-nil (waiting_in now)))) is),
            inr (inr (none, (early, whole))),
          )
      by-met false met false is =
          let none : waiting_in now ≡ [] =
          emptier-none p s box now (old_one (ap (λ (k : Bool). k && not (contains (those one.connected) s)) is))
          (front-none (waiting_in box) [] apart) in (
            record {
              older = d.older;
              kept = d.kept;
              last = d.last;
              early = d.early;
              due = d.due;
              after = d.after;
              split = d.split;
              so = inr (is, ap (λ (l : List (Message T)). l ++ []) none);
            },
            inr (inl none),
          )
        where
          apart : way_in p s None box ≡ []
          apart = elim d.so [
            | inl live ↦ absurd-both (contains (those one.connected) s) live.0 met
            | inr off ↦ off.1
          ]

  listed-box : (service : Service T) → contains (those service.subscriber_list.places) s ≡ true
      → (publishing.ended p service).mailboxes p s ≡ service.mailboxes p s
  listed-box service is =
      ap (λ (b : Bool). cond b (option_map (λ (box : Mailbox T). record box { waiting = [] }) (service.mailboxes p s))
      (service.mailboxes p s))
      (and_right (p == p) (not (contains (those service.subscriber_list.places) s)) (ap not is))

  unlisted-box : (service : Service T) → contains (those service.subscriber_list.places) s ≡ false
      → waiting_in ((publishing.ended p service).mailboxes p s) ≡ []
  unlisted-box service off =
      ap (λ (b : Bool). waiting_in (cond b (option_map (λ (box : Mailbox T). record box { waiting = [] }) (service.mailboxes p s))
      (service.mailboxes p s)))
      (and_from (p == p) (not (contains (those service.subscriber_list.places) s)) (eq-eqb p p refl) (ap not off))
      ∙ none (service.mailboxes p s)
    where
      none : (o : Option (Mailbox T)) → waiting_in (option_map (λ (box : Mailbox T). record box { waiting = [] }) o) ≡ []
      none None = refl
      none (Some box) = refl

  pub follows-due : (D : Message T → Type 0) (sent received : List (Message T)) (born : ℕ) (one : Publisher T) (old : Service T)
      (after : Publisher T) (new : Service T) → one.blocked ≡ None → publishing.Follows p one old after new
      → BetweenOf p s sent received born one old → DueOf D sent received one old
      → DueOf D sent received after new × IsKept sent received (old.mailboxes p s) (new.mailboxes p s)
  follows-due D sent received born one old after new free (refused, allowed, is, came) b d =
      let places : List (Option ℕ) = old.subscriber_list.places in
      let news : List ℕ = filter (λ (t : ℕ). not (contains (those one.connected) t)) (those after.connected) in
      let begun : Service T = with_publisher p after (publishing.ended p old) in
      let boxes : (contains news s ≡ false → (fold (publishing.welcome p one.history) begun news).mailboxes p s ≡ begun.mailboxes p s)
      × (contains news s ≡ true → Given p s one.history ((fold (publishing.welcome p one.history) begun news).mailboxes p s)) =
      welcomes-box p s one.history news begun in
      let now : new.mailboxes p s ≡ (fold (publishing.welcome p one.history) begun news).mailboxes p s =
      ap (λ (service : Service T). service.mailboxes p s) came in
      let new_ones : contains news s ≡ (contains (those (map (unless refused) places)) s && not (contains (those one.connected) s)) =
      contains-filter s (λ (t : ℕ). not (contains (those one.connected) t)) (those after.connected)
      ∙ ap (λ (q : Publisher T). contains (those q.connected) s && not (contains (those one.connected) s)) is in
      let done : Due p s D sent received one.history (map (unless refused) places) None (new.mailboxes p s)
      × IsKept sent received (old.mailboxes p s) (new.mailboxes p s) =
      followed-due D old.settings.sequence_numbers sent received born one (old.mailboxes p s) (new.mailboxes p s) places refused
      (λ out. all-contained s (λ (t : ℕ). contains (those places) t && not (is_some (old.mailboxes p t))) refused allowed out)
      (λ there not_so. now ∙ (boxes.0 (new_ones ∙ not_so) ∙ listed-box old there))
      (λ off not_so. ap waiting_in (now ∙ boxes.0 (new_ones ∙ not_so)) ∙ unlisted-box old off)
      (λ not_so. subst (Emptier p s (old.mailboxes p s)) (sym (now ∙ boxes.0 (new_ones ∙ not_so))) (ended-box p s old))
      (λ is_so. subst (Given p s one.history) (sym now) (boxes.1 (new_ones ∙ is_so))) b
      (subst (λ (o : Option (Send T)). Due p s D sent received one.history one.connected o (old.mailboxes p s)) free d) in (
        subst (λ (q : Publisher T). Due p s D sent received q.history q.connected q.blocked (new.mailboxes p s)) (sym is)
            (subst (λ (o : Option (Send T)). Due p s D sent received one.history (map (unless refused) places) o (new.mailboxes p s))
            (sym free) done.0),
        done.1,
      )
