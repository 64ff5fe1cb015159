-- What a publisher sent, a subscriber received of it, and what waits between them: how that stands to each other, and that what the
-- publisher does keeps it.
use Rattle.std.proofs.Common.{◌≡◌, ◌⊎◌, ◌+◌, ◌<◌, ℕ, Bool, true, false, cond, not, ◌&&◌, ◌||◌, List, [], ◌∷◌, ◌++◌, map, Option, None}
use Rattle.std.proofs.Common.{Some, refl, sym, ap, subst, inl, inr, ◌∙◌, append_assoc, append-nil}
use Rattle.std.proofs.lemmas.Bool.{eqb-true, eqb-false, and_from, and_right, or_left, or_right, or_parts, cases_Bool, not-true, not-false}
use Rattle.std.proofs.lemmas.Bool.{true≢false}
use Rattle.std.specs.Option.{option_map_or}
use Rattle.std.specs.Prelude.{⊤, ◌==◌, nat_le, nat_lt, is_some, option_map, filter, fold, length, MatchBool, MatchOption}
use Rattle.iox_machine.proofs.Delivering.{keeping, sending}
use Rattle.iox_machine.specs.Lending.{Lends, loan_refusal}
use Rattle.iox_machine.specs.Mailbox.{Mailbox, newest, put}
use Rattle.iox_machine.specs.Message.{Message}
use Rattle.iox_machine.specs.MessageLaws.{IsPartOf}
use Rattle.iox_machine.specs.PortList.{those, unless}
use Rattle.iox_machine.specs.PublisherUpdate as publishing
use Rattle.iox_machine.specs.RunLaws.{numbered}
use Rattle.iox_machine.specs.SequenceLaws.{GoOnBehind, last_behind}
use Rattle.iox_machine.specs.Service.{Service, Publisher, Subscriber, Send, mailbox, with_mailbox, connect}
use Rattle.iox_machine.proofs.Shorthands.{with_publisher, LendsLonger}
use Rattle.iox_machine.specs.Table.{at, contains}
use Rattle.iox_machine.proofs.Cases.{by-bool, by-option, same-some, never-some, chosen, both-true}
use Rattle.iox_machine.proofs.Frames.{waiting_in, Softer, box-same, box-aside, soft-connect, by-follows}
use Rattle.iox_machine.proofs.Parts.{part-more, part-last, part-newest, part-front, Once, once-tail, once-past, once-unless}
use Rattle.iox_machine.proofs.Parts.{contains-filter, contains-unless, all-contained}
use Rattle.iox_machine.proofs.Tables.{at-changed}
use Rattle.iox_command.specs.DomainValues.declared.port_error.LoanError.{LoanError}
use Rattle.iox_command.specs.NegotiateBase.DescribeSettings.declared.static_config.publish_subscribe.StaticConfig.{StaticConfig}
use Rattle.iox_command.specs.DomainValues.Sequences.{before_first, next_sequence}

pub absurd-both : {A : Type 0} (b : Bool) → b ≡ true → b ≡ false → A
absurd-both b is_so not_so = absurd (true≢false (sym is_so ∙ not_so))

-- Whether a subscriber may be connected yet: it isn't made, or it is listed; n were made so far.
abbrev pub MayCome : ℕ → ℕ → List (Option ℕ) → Type 0
MayCome s born places = (born < s) ⊎ (contains (those places) s ≡ true)

-- Where a send that began stands: the subscribers that are left are connected, and none is so twice; what a subscriber received and what
-- waits for it comes from before this message if it is left, and may end with it else. Where it isn't connected nothing was received and
-- nothing waits, if it may be connected later.
pub record Under (T : Type 0) (s : ℕ) (May : Type 0) (received before : List (Message T)) (message : Message T)
    (connected : List (Option ℕ)) (remaining : List ℕ) (box : Option (Mailbox T)) : Type 0 where
  pub once : Once s remaining
  pub is_connected : contains remaining s ≡ true → contains (those connected) s ≡ true
  pub from_before : contains remaining s ≡ true → IsPartOf (received ++ waiting_in box) before
  pub waits : IsPartOf (received ++ waiting_in box) (before ++ message ∷ [])
  pub has_box : contains (those connected) s ≡ true → is_some box ≡ true
  pub unmet : May → contains (those connected) s ≡ false → (received ≡ []) × (waiting_in box ≡ [])

-- So where a send is blocked.
abbrev pub IsUnder : (T : Type 0) (s : ℕ) (May : Type 0) (sent received : List (Message T)) (connected : List (Option ℕ))
    (box : Option (Mailbox T)) → Send T → Type 0
IsUnder T s May sent received connected box send =
    (before : List (Message T)) × (sent ≡ before ++ send.message ∷ [])
    × Under T s May received before send.message connected send.left box

-- The sequence numbers of what was sent go on from the first, if there are such numbers, up to a last one.
abbrev pub NumberedUpTo : (T : Type 0) → Bool → Option ℕ → List (Message T) → Type 0
NumberedUpTo T switch last sent = GoOnBehind (before_first switch 1) sent × (last ≡ last_behind (before_first switch 1) sent)

-- one more message is numbered after the others
pub behind-more : {T : Type 0} (start last : Option ℕ) (sent : List (Message T)) (message : Message T)
    → message.sequence ≡ next_sequence last → GoOnBehind start sent × (last ≡ last_behind start sent)
    → GoOnBehind start (sent ++ message ∷ []) × (message.sequence ≡ last_behind start (sent ++ message ∷ []))
behind-more start last [] message is (on, same) = ((is ∙ ap next_sequence same, tt), refl)
behind-more start last (first ∷ more) message is (on, same) =
    let next : GoOnBehind first.sequence (more ++ message ∷ [])
    × (message.sequence ≡ last_behind first.sequence (more ++ message ∷ [])) =
    behind-more first.sequence last more message is (on.1, same) in
    ((on.0, next.0), next.1)

-- What stands between a publisher and a subscriber: whether messages have sequence numbers, and the publisher's last one; what it sent and
-- what that received, how many subscribers came so far, the publisher's history, connections and blocked send, the mailbox of both, and the
-- places of the subscribers.
pub record Between (T : Type 0) (s : ℕ) (switch : Bool) (last : Option ℕ) (sent received : List (Message T)) (born : ℕ)
    (history : List (Message T))
    (connected : List (Option ℕ)) (blocked : Option (Send T)) (box : Option (Mailbox T)) (places : List (Option ℕ)) : Type 0 where
  pub numbered_so : NumberedUpTo T switch last sent
  pub kept : IsPartOf history sent
  pub waits : IsPartOf (received ++ waiting_in box) sent
  pub listed_once : Once s (those places)
  pub connected_once : Once s (those connected)
  pub has_box : contains (those connected) s ≡ true → is_some box ≡ true
  pub unmet : MayCome s born places → contains (those connected) s ≡ false
      → (received ≡ []) × (waiting_in box ≡ [])
  pub unlisted : born < s → (contains (those places) s ≡ false) × (contains (those connected) s ≡ false)
  pub under : MatchOption blocked ⊤ (IsUnder T s (MayCome s born places) sent received connected box)

module _ {T : Type 0} (p s : ℕ) where
  abbrev pub BetweenOf : List (Message T) → List (Message T) → ℕ → Publisher T → Service T → Type 0
  BetweenOf sent received born one service =
      Between T s service.settings.sequence_numbers one.last_sequence sent received born one.history one.connected one.blocked
      (service.mailboxes p s) service.subscriber_list.places

  -- ---- what the subscriber's side does to the mailbox

  under-waits : (May : Type 0) (before received later : List (Message T)) (message : Message T) (connected : List (Option ℕ))
      (remaining : List ℕ) (box now : Option (Mailbox T)) → later ++ waiting_in now ≡ received ++ waiting_in box
      → (is_some box ≡ true → is_some now ≡ true)
      → ((received ≡ []) × (waiting_in box ≡ []) → (later ≡ []) × (waiting_in now ≡ []))
      → Under T s May received before message connected remaining box → Under T s May later before message connected remaining now
  under-waits May before received later message connected remaining box now same some none u = record {
    once = u.once;
    is_connected = u.is_connected;
    from_before = λ is. subst (λ (l : List (Message T)). IsPartOf l before) (sym same) (u.from_before is);
    waits = subst (λ (l : List (Message T)). IsPartOf l (before ++ message ∷ [])) (sym same) u.waits;
    has_box = λ is. some (u.has_box is);
    unmet = λ may is. none (u.unmet may is);
  }

  -- more is received, and less waits
  pub between-waits : (switch : Bool) (last : Option ℕ) (sent received later : List (Message T)) (born : ℕ) (history : List (Message T))
      (connected : List (Option ℕ))
      (blocked : Option (Send T)) (box now : Option (Mailbox T)) (places : List (Option ℕ))
      → later ++ waiting_in now ≡ received ++ waiting_in box
      → (is_some box ≡ true → is_some now ≡ true)
      → ((received ≡ []) × (waiting_in box ≡ []) → (later ≡ []) × (waiting_in now ≡ []))
      → Between T s switch last sent received born history connected blocked box places
      → Between T s switch last sent later born history connected blocked now places
  between-waits switch last sent received later born history connected blocked box now places same some none b = record {
    numbered_so = b.numbered_so;
    kept = b.kept;
    waits = subst (λ (l : List (Message T)). IsPartOf l sent) (sym same) b.waits;
    listed_once = b.listed_once;
    connected_once = b.connected_once;
    has_box = λ is. some (b.has_box is);
    unmet = λ may is. none (b.unmet may is);
    unlisted = b.unlisted;
    under = blocked-so blocked b.under;
  }
    where
      blocked-so : (o : Option (Send T)) → MatchOption o ⊤ (IsUnder T s (MayCome s born places) sent received connected box)
          → MatchOption o ⊤ (IsUnder T s (MayCome s born places) sent later connected now)
      blocked-so None u = tt
      blocked-so (Some send) u =
          (u.0, u.1, under-waits (MayCome s born places) u.0 received later send.message connected send.left box now same some none u.2)

  pub between-soft : (switch : Bool) (last : Option ℕ) (sent received : List (Message T)) (born : ℕ) (history : List (Message T))
      (connected : List (Option ℕ))
      (blocked : Option (Send T)) (box now : Option (Mailbox T)) (places : List (Option ℕ)) → Softer box now
      → Between T s switch last sent received born history connected blocked box places
      → Between T s switch last sent received born history connected blocked now places
  between-soft switch last sent received born history connected blocked box now places soft b =
      between-waits switch last sent received received born history connected blocked box now places
      (ap (λ (l : List (Message T)). received ++ l) soft.0) soft.1 (λ none. (none.0, soft.0 ∙ none.1)) b

  -- ---- subscribers come and leave

  under-may : (May Came : Type 0) (before received : List (Message T)) (message : Message T) (connected : List (Option ℕ))
      (remaining : List ℕ) (box : Option (Mailbox T)) → (Came → May)
      → Under T s May received before message connected remaining box → Under T s Came received before message connected remaining box
  under-may May Came before received message connected remaining box on u = record {
    once = u.once;
    is_connected = u.is_connected;
    from_before = u.from_before;
    waits = u.waits;
    has_box = u.has_box;
    unmet = λ may is. u.unmet (on may) is;
  }

  pub between-places : (switch : Bool) (last : Option ℕ) (sent received : List (Message T)) (born : ℕ) (history : List (Message T))
      (connected : List (Option ℕ))
      (blocked : Option (Send T)) (box : Option (Mailbox T)) (places : List (Option ℕ)) (later : ℕ) (now : List (Option ℕ))
      → Once s (those now)
      → (MayCome s later now → MayCome s born places)
      → (later < s → (born < s) × (contains (those now) s ≡ false))
      → Between T s switch last sent received born history connected blocked box places
      → Between T s switch last sent received later history connected blocked box now
  between-places switch last sent received born history connected blocked box places later now once may off b = record {
    numbered_so = b.numbered_so;
    kept = b.kept;
    waits = b.waits;
    listed_once = once;
    connected_once = b.connected_once;
    has_box = b.has_box;
    unmet = λ came is. b.unmet (may came) is;
    unlisted = λ early. ((off early).1, (b.unlisted (off early).0).1);
    under = blocked-so blocked b.under;
  }
    where
      blocked-so : (o : Option (Send T)) → MatchOption o ⊤ (IsUnder T s (MayCome s born places) sent received connected box)
          → MatchOption o ⊤ (IsUnder T s (MayCome s later now) sent received connected box)
      blocked-so None u = tt
      blocked-so (Some send) u
          = (u.0, u.1, under-may (MayCome s born places) (MayCome s later now) u.0 received send.message connected send.left box may u.2)

  -- ---- a publisher lends

  pub lends-between : (number values : ℕ) (one : Publisher T) (service : Service T) (refused : Option LoanError) (after : Publisher T)
      (P : List (Message T) → List (Option ℕ) → Option (Send T) → Option ℕ → Type 0)
      → Lends number values one service refused after → P one.history one.connected one.blocked one.last_sequence
      → P after.history after.connected after.blocked after.last_sequence
  lends-between number values one service refused after P h it =
      elim (by-option (loan_refusal number values one service)
      (MatchBool (nat_lt one.room values) (LendsLonger number values one refused after)
      ((refused ≡ None) × (after ≡ record one { next = one.next + 1 })))
      (λ why. (refused ≡ Some why) × (after ≡ one)) h) [
        | inl w ↦ elim (by-bool (nat_lt one.room values) (LendsLonger number values one refused after)
            ((refused ≡ None) × (after ≡ record one { next = one.next + 1 })) w.1) [
              | inl k ↦ longer k.1
              | inr k ↦ subst (λ (q : Publisher T). P q.history q.connected q.blocked q.last_sequence) (sym k.1.1) it
            ]
        | inr w ↦ subst (λ (q : Publisher T). P q.history q.connected q.blocked q.last_sequence) (sym w.2.1) it
      ]
    where
      longer : LendsLonger number values one refused after → P after.history after.connected after.blocked after.last_sequence
      longer (inl (told, same)) = subst (λ (q : Publisher T). P q.history q.connected q.blocked q.last_sequence) (sym same) it
      longer (inr (room, allowed, few, told, same)) =
          subst (λ (q : Publisher T). P q.history q.connected q.blocked q.last_sequence) (sym same) it

  -- ---- a publisher follows the list of subscribers

  -- a mailbox that may have lost what waits
  abbrev pub Emptier : Option (Mailbox T) → Option (Mailbox T) → Type 0
  Emptier box now = ((waiting_in now ≡ waiting_in box) ⊎ (waiting_in now ≡ [])) × (is_some box ≡ true → is_some now ≡ true)

  pub ended-box : (service : Service T) → Emptier (service.mailboxes p s) ((publishing.ended p service).mailboxes p s)
  ended-box service = step ((p == p) && not (contains (those service.subscriber_list.places) s)) (service.mailboxes p s)
    where
      step : (b : Bool) (o : Option (Mailbox T)) → Emptier o (cond b (option_map (λ (box : Mailbox T). record box { waiting = [] }) o) o)
      step true None = (inl refl, λ is. is)
      step true (Some box) = (inr refl, λ is. refl)
      step false o = (inl refl, λ is. is)

  welcome-aside : (history : List (Message T)) (t : ℕ) (service : Service T) → (s ≡ t → ⊥)
      → (publishing.welcome p history service t).mailboxes p s ≡ service.mailboxes p s
  welcome-aside history t service off =
      let limit : ℕ = option_map_or (λ (one : Subscriber). one.buffer_size) (at t service.subscribers) 0 in
      let met : Service T = connect limit p t service in
      let box : Mailbox T = mailbox p t met in
      box-aside p t (record box { waiting = newest box.limit history }) met p s off ∙ connect-aside limit (is_some (service.mailboxes p t))
    where
      connect-aside : (limit : ℕ) (b : Bool)
          → (cond b service (with_mailbox p t (record { limit = limit; waiting = []; borrowed = [] }) service)).mailboxes p s
          ≡ service.mailboxes p s
      connect-aside limit true = refl
      connect-aside limit false = box-aside p t (record { limit = limit; waiting = []; borrowed = [] }) service p s off

  -- a mailbox to which a history was given
  abbrev pub Given : List (Message T) → Option (Mailbox T) → Type 0
  Given history now = ((limit : ℕ) × (waiting_in now ≡ newest limit history)) × (is_some now ≡ true)

  welcome-here : (history : List (Message T)) (service : Service T)
      → Given history ((publishing.welcome p history service s).mailboxes p s)
  welcome-here history service =
      let limit : ℕ = option_map_or (λ (one : Subscriber). one.buffer_size) (at s service.subscribers) 0 in
      let met : Service T = connect limit p s service in
      let box : Mailbox T = mailbox p s met in
      let same : (publishing.welcome p history service s).mailboxes p s ≡ Some (record box { waiting = newest box.limit history }) =
      box-same p s (record box { waiting = newest box.limit history }) met in
      ((box.limit, ap waiting_in same), ap is_some same)

  pub welcomes-box : (history : List (Message T)) (news : List ℕ) (service : Service T)
      → (contains news s ≡ false
      → (fold (publishing.welcome p history) service news).mailboxes p s ≡ service.mailboxes p s)
      × (contains news s ≡ true → Given history ((fold (publishing.welcome p history) service news).mailboxes p s))
  welcomes-box history [] service = ((λ is. refl), (λ is. absurd (true≢false (sym is))))
  welcomes-box history (t ∷ more) service =
      let next : Service T = publishing.welcome p history service t in
      let on : (contains more s ≡ false → (fold (publishing.welcome p history) next more).mailboxes p s ≡ next.mailboxes p s)
      × (contains more s ≡ true → Given history ((fold (publishing.welcome p history) next more).mailboxes p s)) =
      welcomes-box history more next in (
        (λ is. on.0 (or_parts (t == s) (contains more s) is).1
            ∙ welcome-aside history t service (λ same. eqb-false t s (or_parts (t == s) (contains more s) is).0 (sym same))),
        (λ is. elim (cases_Bool (contains more s)) [
          | inl later ↦ on.1 later
          | inr later ↦ subst (Given history) (sym (on.0 later)) (here t (first (t == s) later is))
        ]),
      )
    where
      first : (b : Bool) → contains more s ≡ false → (b || contains more s) ≡ true → b ≡ true
      first true not_so is = refl
      first false not_so is = absurd-both (contains more s) is not_so

      here : (u : ℕ) → (u == s) ≡ true → Given history ((publishing.welcome p history service u).mailboxes p s)
      here u is =
          subst (λ (k : ℕ). Given history ((publishing.welcome p history service k).mailboxes p s)) (sym (eqb-true u s is))
          (welcome-here history service)

  connect-publishers : (limit t : ℕ) (service : Service T) → (connect limit p t service).publishers ≡ service.publishers
  connect-publishers limit t service = (soft-connect limit p t service).3

  welcomes-publishers : (history : List (Message T)) (news : List ℕ) (service : Service T)
      → (fold (publishing.welcome p history) service news).publishers ≡ service.publishers
  welcomes-publishers history [] service = refl
  welcomes-publishers history (t ∷ more) service =
      welcomes-publishers history more (publishing.welcome p history service t)
      ∙ connect-publishers (option_map_or (λ (one : Subscriber). one.buffer_size) (at t service.subscribers) 0) t service

  pub follows-publishers : (one : Publisher T) (old : Service T) (after : Publisher T) (new : Service T)
      → at p old.publishers ≡ Some one → publishing.Follows p one old after new → at p new.publishers ≡ Some after
  follows-publishers one old after new found (refused, allowed, is, came) =
      ap (λ (service : Service T). at p service.publishers) came
      ∙ (ap (at p) (welcomes-publishers one.history
      (filter (λ subscriber. not (contains (those one.connected) subscriber)) (those after.connected))
      (with_publisher p after (publishing.ended p old)))
      ∙ at-changed p after one old.publishers found)

  emptier-waits : (sent received : List (Message T)) (box now : Option (Mailbox T)) → Emptier box now
      → IsPartOf (received ++ waiting_in box) sent → IsPartOf (received ++ waiting_in now) sent
  emptier-waits sent received box now (inl same, some) h =
      subst (λ (l : List (Message T)). IsPartOf (received ++ l) sent) (sym same) h
  emptier-waits sent received box now (inr none, some) h =
      subst (λ (l : List (Message T)). IsPartOf (received ++ l) sent) (sym none)
      (subst (λ (l : List (Message T)). IsPartOf l sent) (sym (append-nil received)) (part-front received (waiting_in box) sent h))

  pub emptier-none : (box now : Option (Mailbox T)) → Emptier box now → waiting_in box ≡ [] → waiting_in now ≡ []
  emptier-none box now (inl same, some) h = same ∙ h
  emptier-none box now (inr none, some) h = none

  -- what was between both before a publisher followed, and the mailbox then, make up what is between them after it
  followed : (switch : Bool) (sent received : List (Message T)) (born : ℕ) (one : Publisher T) (box now : Option (Mailbox T))
      (places : List (Option ℕ)) (refused : List ℕ) → one.blocked ≡ None
      → (contains refused s ≡ true → (contains (those places) s && not (is_some box)) ≡ true)
      → ((contains (those (map (unless refused) places)) s && not (contains (those one.connected) s)) ≡ false → Emptier box now)
      → ((contains (those (map (unless refused) places)) s && not (contains (those one.connected) s)) ≡ true → Given one.history now)
      → Between T s switch one.last_sequence sent received born one.history one.connected one.blocked box places
      → Between T s switch one.last_sequence sent received born one.history (map (unless refused) places) one.blocked now places
  followed switch sent received born one box now places refused free refuses old_one new_one b =
      by-met (contains (those one.connected) s) refl (contains (those (map (unless refused) places)) s) refl
    where
      hit : contains (those (map (unless refused) places)) s ≡ (contains (those places) s && not (contains refused s))
      hit = contains-unless s refused places

      listed : contains (those (map (unless refused) places)) s ≡ true → contains (those places) s ≡ true
      listed is = (both-true (contains (those places) s) (not (contains refused s)) (sym hit ∙ is)).0

      built : IsPartOf (received ++ waiting_in now) sent → (contains (those (map (unless refused) places)) s ≡ true → is_some now ≡ true)
          → (MayCome s born places → contains (those (map (unless refused) places)) s ≡ false
          → (received ≡ []) × (waiting_in now ≡ []))
          → Between T s switch one.last_sequence sent received born one.history (map (unless refused) places) one.blocked now places
      built waits has_box unmet = record {
        numbered_so = b.numbered_so;
        kept = b.kept;
        waits = waits;
        listed_once = b.listed_once;
        connected_once = once-unless s refused places b.listed_once;
        has_box = has_box;
        unmet = unmet;
        unlisted = λ early. (
          (b.unlisted early).0,
          hit ∙ ap (λ (d : Bool). d && not (contains refused s)) (b.unlisted early).0,
        );
        under = subst (λ (o : Option (Send T)). MatchOption o ⊤
            (IsUnder T s (MayCome s born places) sent received (map (unless refused) places) now)) (sym free) tt;
      }

      by-met : (c : Bool) → contains (those one.connected) s ≡ c → (d : Bool) → contains (those (map (unless refused) places)) s ≡ d
          → Between T s switch one.last_sequence sent received born one.history (map (unless refused) places) one.blocked now places
      by-met true met d is =
          let e : Emptier box now =
          old_one (and_right (contains (those (map (unless refused) places)) s) (not (contains (those one.connected) s)) (ap not met)) in
          built (emptier-waits sent received box now e b.waits) (λ is_so. e.1 (b.has_box met)) (λ may not_so. unmet may not_so)
        where
          unmet : MayCome s born places → contains (those (map (unless refused) places)) s ≡ false
              → (received ≡ []) × (waiting_in now ≡ [])
          unmet (inl early) not_so = absurd-both (contains (those one.connected) s) met (b.unlisted early).1
          unmet (inr there) not_so =
              let out : contains refused s ≡ true =
              not-false (contains refused s) (ap (λ (k : Bool). k && not (contains refused s)) (sym there) ∙ (sym hit ∙ not_so)) in
              absurd-both (is_some box) (b.has_box met)
              (not-true (is_some box) (both-true (contains (those places) s) (not (is_some box)) (refuses out)).1)
      by-met false met true is =
          let none : (received ≡ []) × (waiting_in box ≡ []) = b.unmet (inr (listed is)) met in
          let given : Given one.history now =
          new_one (and_from (contains (those (map (unless refused) places)) s) (not (contains (those one.connected) s)) is (ap not met)) in
          built
          (subst (λ (l : List (Message T)). IsPartOf (l ++ waiting_in now) sent) (sym none.0)
          (subst (λ (l : List (Message T)). IsPartOf l sent) (sym given.0.1) (part-newest given.0.0 [] one.history sent b.kept)))
          (λ is_so. given.1)
          (λ may not_so. absurd-both (contains (those (map (unless refused) places)) s) is not_so)
      by-met false met false is =
          let e : Emptier box now =
          old_one (ap (λ (k : Bool). k && not (contains (those one.connected) s)) is) in
          built (emptier-waits sent received box now e b.waits)
          (λ is_so. absurd-both (contains (those (map (unless refused) places)) s) is_so is)
          (λ may not_so. ((b.unmet may met).0, emptier-none box now e (b.unmet may met).1))

  pub follows-between : (sent received : List (Message T)) (born : ℕ) (one : Publisher T) (old : Service T) (after : Publisher T)
      (new : Service T) → one.blocked ≡ None → publishing.Follows p one old after new → BetweenOf sent received born one old
      → BetweenOf sent received born after new × (after.blocked ≡ None)
  follows-between sent received born one old after new free (refused, allowed, is, came) b =
      let places : List (Option ℕ) = old.subscriber_list.places in
      let news : List ℕ = filter (λ (t : ℕ). not (contains (those one.connected) t)) (those after.connected) in
      let begun : Service T = with_publisher p after (publishing.ended p old) in
      let boxes : (contains news s ≡ false → (fold (publishing.welcome p one.history) begun news).mailboxes p s ≡ begun.mailboxes p s)
      × (contains news s ≡ true → Given one.history ((fold (publishing.welcome p one.history) begun news).mailboxes p s)) =
      welcomes-box one.history news begun in
      let now : new.mailboxes p s ≡ (fold (publishing.welcome p one.history) begun news).mailboxes p s =
      ap (λ (service : Service T). service.mailboxes p s) came in
      let new_ones : contains news s ≡ (contains (those (map (unless refused) places)) s && not (contains (those one.connected) s)) =
      contains-filter s (λ (t : ℕ). not (contains (those one.connected) t)) (those after.connected)
      ∙ ap (λ (q : Publisher T). contains (those q.connected) s && not (contains (those one.connected) s)) is in (
        subst (λ (q : Publisher T). Between T s new.settings.sequence_numbers q.last_sequence sent received born q.history q.connected
            q.blocked (new.mailboxes p s) new.subscriber_list.places) (sym is)
            (subst (λ (l : List (Option ℕ)). Between T s new.settings.sequence_numbers one.last_sequence sent received born one.history
            (map (unless refused) places) one.blocked (new.mailboxes p s) l)
            (sym (ap (λ l. l.places) (by-follows p one old after new (refused, allowed, is, came)).2))
            (subst (λ (c : StaticConfig). Between T s c.sequence_numbers one.last_sequence sent received born one.history
            (map (unless refused) places) one.blocked (new.mailboxes p s) places)
            (sym (by-follows p one old after new (refused, allowed, is, came)).1)
            (followed old.settings.sequence_numbers sent received born one (old.mailboxes p s) (new.mailboxes p s) places refused free
            (λ out. all-contained s (λ (t : ℕ). contains (those places) t && not (is_some (old.mailboxes p t))) refused allowed out)
            (λ not_so. subst (Emptier (old.mailboxes p s)) (sym (now ∙ boxes.0 (new_ones ∙ not_so))) (ended-box old))
            (λ is_so. subst (Given one.history) (sym now) (boxes.1 (new_ones ∙ is_so))) b))),
        ap (λ (q : Publisher T). q.blocked) is ∙ free,
      )

  -- ---- a send

  pub put-waits : (overflows : Bool) (message : Message T) (box it : Mailbox T) → put overflows message box ≡ Some it
      → (limit : ℕ) × (it.waiting ≡ newest limit (box.waiting ++ message ∷ []))
  put-waits overflows message box it e =
      elim (chosen (not overflows && nat_le box.limit (length box.waiting)) None
      (Some (record box { waiting = newest box.limit (box.waiting ++ message ∷ []) })) (Some it) e) [
        | inl w ↦ never-some it w.1
        | inr w ↦ (
          box.limit,
          ap (λ (one : Mailbox T). one.waiting)
              (sym (same-some (record box { waiting = newest box.limit (box.waiting ++ message ∷ []) }) it w.1)),
        )
      ]

  module _ (May : Type 0) (received before : List (Message T)) (message : Message T) (connected : List (Option ℕ)) where
    abbrev IsUnderWith : List ℕ → Option (Mailbox T) → Type 0
    IsUnderWith remaining box = Under T s May received before message connected remaining box

    pub under-past : (t : ℕ) (more : List ℕ) (box : Option (Mailbox T)) → IsUnderWith (t ∷ more) box → IsUnderWith more box
    under-past t more box u = record {
      once = once-tail s t more u.once;
      is_connected = λ is. u.is_connected (or_right (t == s) (contains more s) is);
      from_before = λ is. u.from_before (or_right (t == s) (contains more s) is);
      waits = u.waits;
      has_box = u.has_box;
      unmet = u.unmet;
    }

    pub under-put : (t : ℕ) (more : List ℕ) (box : Option (Mailbox T)) (it : Mailbox T) → (t == s) ≡ true
        → (limit : ℕ) × (it.waiting ≡ newest limit (waiting_in box ++ message ∷ []))
        → IsUnderWith (t ∷ more) box → IsUnderWith more (Some it)
    under-put t more box it here (limit, waits) u = record {
      once = once-tail s t more u.once;
      is_connected = λ is. u.is_connected (or_right (t == s) (contains more s) is);
      from_before = λ is. absurd-both (contains more s) is (once-past s t more here u.once);
      waits = subst (λ (l : List (Message T)). IsPartOf (received ++ l) (before ++ message ∷ [])) (sym waits)
          (part-newest limit received (waiting_in box ++ message ∷ []) (before ++ message ∷ [])
          (subst (λ (l : List (Message T)). IsPartOf l (before ++ message ∷ []))
          (append_assoc received (waiting_in box) (message ∷ []))
          (part-last message (received ++ waiting_in box) before (u.from_before (or_left (t == s) (contains more s) here)))));
      has_box = λ is. refl;
      unmet = λ may is. absurd-both (contains (those connected) s) (u.is_connected (or_left (t == s) (contains more s) here)) is;
    }

  -- ---- what a publisher's commands do

  -- a publisher is there, and what is between it and the subscriber is as it should be
  abbrev pub Stands : List (Message T) → List (Message T) → ℕ → Service T → Type 0
  Stands sent received born service =
      (one : Publisher T) × (at p service.publishers ≡ Some one) × BetweenOf sent received born one service

  -- the publisher's send is another of a message that it sent last, and other messages wait
  pub sends-so : (sent received before : List (Message T)) (born : ℕ) (one : Publisher T) (next : Send T) (old : Service T)
      (boxes : ℕ → ℕ → Option (Mailbox T)) → sent ≡ before ++ next.message ∷ [] → BetweenOf sent received born one old
      → Under T s (MayCome s born old.subscriber_list.places) received before next.message one.connected next.left (boxes p s)
      → BetweenOf sent received born (record one { blocked = Some next }) (record old { mailboxes = boxes })
  sends-so sent received before born one next old boxes is b u = record {
    numbered_so = b.numbered_so;
    kept = b.kept;
    waits = subst (λ (l : List (Message T)). IsPartOf (received ++ waiting_in (boxes p s)) l) (sym is) u.waits;
    listed_once = b.listed_once;
    connected_once = b.connected_once;
    has_box = u.has_box;
    unmet = u.unmet;
    unlisted = b.unlisted;
    under = (before, is, u);
  }

  -- a send begins
  pub begun-between : (sent received : List (Message T)) (born : ℕ) (message : Message T) (one : Publisher T) (old : Service T)
      → BetweenOf sent received born one old
      → BetweenOf (sent ++ numbered one message ∷ []) received born
      (record (keeping message one old) { blocked = Some (sending message one) }) old
  begun-between sent received born message one old b = record {
    numbered_so =
        behind-more (before_first old.settings.sequence_numbers 1) one.last_sequence sent (numbered one message) refl b.numbered_so;
    kept = part-newest old.settings.history_size [] (one.history ++ numbered one message ∷ []) (sent ++ numbered one message ∷ [])
        (part-last (numbered one message) one.history sent b.kept);
    waits = later;
    listed_once = b.listed_once;
    connected_once = b.connected_once;
    has_box = b.has_box;
    unmet = b.unmet;
    unlisted = b.unlisted;
    under = (
      sent,
      refl,
      record {
        once = b.connected_once;
        is_connected = λ is. is;
        from_before = λ is. b.waits;
        waits = later;
        has_box = b.has_box;
        unmet = b.unmet;
      },
    );
  }
    where
      later : IsPartOf (received ++ waiting_in (old.mailboxes p s)) (sent ++ numbered one message ∷ [])
      later = part-more (received ++ waiting_in (old.mailboxes p s)) sent (numbered one message ∷ []) b.waits

  pub free-between : (sent received : List (Message T)) (born : ℕ) (one : Publisher T) (service : Service T)
      → BetweenOf sent received born one service → BetweenOf sent received born (record one { blocked = None }) service
  free-between sent received born one service b = record {
    numbered_so = b.numbered_so;
    kept = b.kept;
    waits = b.waits;
    listed_once = b.listed_once;
    connected_once = b.connected_once;
    has_box = b.has_box;
    unmet = b.unmet;
    unlisted = b.unlisted;
    under = tt;
  }

  pub lends-stands : (sent received : List (Message T)) (born values : ℕ) (one : Publisher T) (old : Service T) (refused : Option LoanError)
      (after : Publisher T) → at p old.publishers ≡ Some one → BetweenOf sent received born one old
      → Lends p values one old refused after
      → (at p (with_publisher p after old).publishers ≡ Some after) × BetweenOf sent received born after (with_publisher p after old)
  lends-stands sent received born values one old refused after found b lent = (
    at-changed p after one old.publishers found,
    lends-between p values one old refused after
        (λ history connected blocked last. Between T s old.settings.sequence_numbers last sent received born history connected blocked
        (old.mailboxes p s)
        old.subscriber_list.places) lent b,
  )

  pub lends-free : (values : ℕ) (one : Publisher T) (old : Service T) (refused : Option LoanError) (after : Publisher T)
      → one.blocked ≡ None → Lends p values one old refused after → after.blocked ≡ None
  lends-free values one old refused after free lent =
      lends-between p values one old refused after (λ history connected blocked last. blocked ≡ None) lent free
