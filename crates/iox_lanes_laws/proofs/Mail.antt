-- What waits at each connection after a call of a publisher that no other call overlaps.
use Rattle.std.proofs.Common.{ℕ, zero, suc, ◌≡◌, ◌+◌, ◌≤◌, ◌^◌, ◌&&◌, ◌||◌, not, cond, Bool, true, false, nat_lt, if◌then◌else◌, List, []}
use Rattle.std.proofs.Common.{◌∷◌, ◌++◌, length, get_or, slice_get, Option, Some, None, refl, sym, ◌∙◌, ap, subst, inl, inr, arith}
use Rattle.std.proofs.Common.{append_assoc, append-nil, length-append}
use Rattle.std.specs.Prelude.{count_by}
use Rattle.std.specs.List.{AllZip}
use Rattle.std.proofs.lemmas.List.Sums.{sum_by-cons}
use Rattle.std.proofs.lemmas.Bool.{eq-eqb}
use Rattle.std.proofs.lemmas.Bool.Decides.{eqb_tells}
use Rattle.iox_lanes_machine.specs.QueuesSteps.Order.{Acts, after_acts, after_put, put_answer, puts}
use Rattle.iox_lanes_machine.specs.QueuesSteps.declared.order.Act.{Act}
use Rattle.iox_lanes_machine.specs.QueuesSteps.declared.order.PushAnswer.{PushAnswer}
use Rattle.iox_lanes_machine.specs.QueuesSteps.declared.order.PushAnswer.TheVariants.{Kept, LeftOut, Refused}
use Rattle.iox_lanes_machine.specs.QueuesSteps.Ends.{overflows}
use Rattle.iox_lanes_machine.specs.LanesBase.Publishing.{publisher_is_idle}
use Rattle.iox_lanes_machine.specs.LanesBase.declared.calls.publisher.Delivery.{Delivery}
use Rattle.iox_lanes_machine.specs.LanesBase.declared.calls.publisher.PublisherCall.{PublisherCall}
use Rattle.iox_lanes_machine.specs.LanesBase.declared.calls.publisher.PublisherCall.TheVariants as publishing
use Rattle.iox_lanes_machine.specs.LanesBase.declared.calls.route.Route.{Route}
use Rattle.iox_lanes_machine.specs.LanesParties.Parties.{PublisherLaneState, name_of}
use Rattle.iox_lanes_machine.specs.LanesParties.SendAnswers.{send_answer, delivery_in}
use Rattle.iox_lanes_machine.specs.LanesParties.declared.call.SendAnswer.{SendAnswer}
use Rattle.iox_lanes_machine.specs.LanesParties.declared.call.SendAnswer.TheVariants.{Delivered, UnableToDeliver}
use Rattle.iox_lanes_machine.specs.LanesParties.declared.call.Answer.{Answer}
use Rattle.iox_lanes_machine.specs.LanesParties.declared.call.Answer.TheVariants as answer
use Rattle.iox_lanes_machine.specs.LanesParties.declared.call.Call.{Call}
use Rattle.iox_lanes_machine.specs.LanesParties.declared.call.Call.TheVariants as call
use Rattle.iox_lanes_machine.specs.LanesParties.declared.call.FinishedCall.{FinishedCall}
use Rattle.iox_lanes_machine.specs.LanesParties.declared.call.Party.TheVariants.{Publisher}
use Rattle.iox_lanes_machine.proofs.LanesParties.Rings.{all_at}
use Rattle.iox_lanes_machine.specs.Kept.{IsKept, IsLinkOf, sender}
use Rattle.iox_lanes_machine.specs.Links.{LinkState}
use Rattle.iox_lanes_machine.specs.Resting.{mail_at, mail_by}
use Rattle.iox_lanes_machine.specs.Rings.{waiting}
use Rattle.iox_lanes_machine.specs.Sends.{taken_among, refused_among, IsPutAt, IsSent, is_sender, is_send, sends_of, IsAmong, SendsPut}
use Rattle.iox_lanes_machine.specs.World.{World, ended, publisher_ending}
use Rattle.iox_lanes_machine.proofs.Ends.{some_is, choose_one}
use Rattle.iox_lanes_machine.proofs.Mailboxes.{order_there}
use Rattle.iox_lanes_machine.proofs.RestingRings.{mail_is}
use Rattle.iox_lanes_machine.proofs.Sends.{is_quiet, quiet_count, same_sends}
use Rattle.iox_lanes_laws.specs.Publishing.{takes_in, route_takes}
use Rattle.iox_lanes_laws.specs.Turns.{IsAnswered, MailStays}
use Rattle.iox_lanes_laws.proofs.Orders.{PutsMore, none_put, one_more_put, waits_more, answered_more}
use Rattle.iox_lanes_laws.proofs.Publishers.{WholeCall}

idle_quiet : (c : PublisherCall) → publisher_is_idle c ≡ true → is_quiet c ≡ true
idle_quiet publishing.Idle h = refl
idle_quiet (publishing.LoanReclaims place route p) h = absurd (cc h)
idle_quiet publishing.Lending h = absurd (cc h)
idle_quiet (publishing.Writing slot word value) h = absurd (cc h)
idle_quiet (publishing.Written slot) h = absurd (cc h)
idle_quiet (publishing.Heading slot word value) h = absurd (cc h)
idle_quiet (publishing.Remembering slot) h = absurd (cc h)
idle_quiet (publishing.SendReclaims slot place route p) h = absurd (cc h)
idle_quiet (publishing.Pushing slot place route p delivery) h = absurd (cc h)
idle_quiet (publishing.Sent slot delivery) h = absurd (cc h)
idle_quiet (publishing.Dropping slot) h = absurd (cc h)

-- the call is answered by what its last step says
pub answered_by : (m : World) (place : ℕ) (c : Call) (before : PublisherLaneState) (n : World) (after : PublisherLaneState)
    (w : WholeCall m place c before n after) (given : Answer)
    → publisher_ending (w.last.k).table w.last.lane ≡ Some given → IsAnswered m (Publisher place) c given n
answered_by m place c before n after w given e = record {
  call = record { party = Publisher place; call = name_of c; answer = given; first = m.moments; last = (w.last.k).moments };
  more = w.finished ∙ ap (λ (o : Option Answer). m.finished ++ ended (Publisher place) (name_of c) m.moments (w.last.k).moments o) e;
  own = refl;
  asked = refl;
  answered = refl;
}

-- how many puts stand at a connection of a publisher between calls
puts_counted : (m : World) (place connection i : ℕ) (lane : PublisherLaneState) (route : Route) → IsKept m → m.moments ≤ 2 ^ 63
    → slice_get m.publishers place ≡ Some lane → publisher_is_idle lane.port.call ≡ true → slice_get lane.port.routes i ≡ Some route
    → route.connection ≡ connection
    → length (puts (get_or m.orders connection [])) ≡ length (sends_of place m.finished)
puts_counted m place connection i lane route k few found idle there same =
    subst (λ (c : ℕ). length (puts (get_or m.orders c [])) ≡ length (sends_of place m.finished)) same
    (quiet_count m place lane.fails lane.port.routes lane.first lane.port.call (idle_quiet lane.port.call idle)
    (k.sends few place lane found) i route there)

-- between the two orders of a connection
puts_between : (m : World) (place : ℕ) (c : Call) (before : PublisherLaneState) (n : World) (after : PublisherLaneState)
    (w : WholeCall m place c before n after) (connection : ℕ) (link : LinkState) → slice_get m.links connection ≡ Some link
    → PutsMore m place connection (get_or m.orders connection []) (get_or n.orders connection [])
puts_between m place c before n after w connection link found =
    w.puts connection (get_or m.orders connection []) (get_or n.orders connection []) (order_there m connection link w.was found)
    (order_there n connection link w.kept (ap (λ (ls : List LinkState). slice_get ls connection) w.links ∙ found))

routes_same : (m : World) (place : ℕ) (c : Call) (before : PublisherLaneState) (n : World) (after : PublisherLaneState)
    (w : WholeCall m place c before n after) → after.port.routes ≡ before.port.routes
routes_same m place c before n after w = ap (λ (x : PublisherLaneState). x.port.routes) w.after_is ∙ w.last.alone.routes

fails_same : (m : World) (place : ℕ) (c : Call) (before : PublisherLaneState) (n : World) (after : PublisherLaneState)
    (w : WholeCall m place c before n after) → after.fails ≡ before.fails
fails_same m place c before n after w = ap (λ (x : PublisherLaneState). x.fails) w.after_is ∙ w.last.alone.fails

waits_same : (m : World) (place : ℕ) (c : Call) (before : PublisherLaneState) (n : World) (after : PublisherLaneState)
    (w : WholeCall m place c before n after) (connection : ℕ) (link : LinkState) (found : slice_get m.links connection ≡ Some link)
    → (puts_between m place c before n after w connection link found).acts ≡ []
    → waiting link (get_or n.orders connection []) ≡ waiting link (get_or m.orders connection [])
waits_same m place c before n after w connection link found none =
    let h = puts_between m place c before n after w connection link found in
    waits_more link (get_or m.orders connection []) (get_or n.orders connection []) h.acts h.more ∙ ap
    (after_acts (overflows link.kind) link.limit (waiting link (get_or m.orders connection []))) none

-- what waits where a connection is another's, or where no put was made
mail_of : (m n : World) (connection : ℕ) (link : LinkState) → n.links ≡ m.links → slice_get m.links connection ≡ Some link
    → waiting link (get_or n.orders connection []) ≡ waiting link (get_or m.orders connection [])
    → mail_at n connection ≡ mail_at m connection
mail_of m n connection link links found same =
    mail_is n connection link (ap (λ (ls : List LinkState). slice_get ls connection) links ∙ found) ∙ same ∙ sym
    (mail_is m connection link found)

pub mail_elsewhere : (m : World) (place : ℕ) (c : Call) (before : PublisherLaneState) (n : World) (after : PublisherLaneState)
    (w : WholeCall m place c before n after) (connection : ℕ) (link : LinkState) → slice_get m.links connection ≡ Some link
    → (link.publisher ≡ place → ⊥) → mail_at n connection ≡ mail_at m connection
mail_elsewhere m place c before n after w connection link found other =
    mail_of m n connection link w.links found
    (waits_same m place c before n after w connection link found
    ((puts_between m place c before n after w connection link found).own link found other))

-- a call that is no send puts nothing
pub waits_on : (m : World) (place : ℕ) (c : Call) (before : PublisherLaneState) (n : World) (after : PublisherLaneState)
    (w : WholeCall m place c before n after) (given : Answer) → slice_get m.publishers place ≡ Some before
    → slice_get n.publishers place ≡ Some after
    → publisher_ending (w.last.k).table w.last.lane ≡ Some given → is_send given ≡ false → (connection : ℕ) (link : LinkState)
    → slice_get m.links connection ≡ Some link
    → waiting link (get_or n.orders connection []) ≡ waiting link (get_or m.orders connection [])
waits_on m place c before n after w given found now e quiet connection link there = elim (eqb_tells link.publisher place) [
  | inl own ↦
      let among = (w.was.sends w.few_first place before found).connections.each connection link there own.1 in
      let sends : sends_of place n.finished ≡ sends_of place m.finished
      = ap (sends_of place) (w.finished ∙ ap
      (λ (o : Option Answer). m.finished ++ ended (Publisher place) (name_of c) m.moments (w.last.k).moments o) e)
      ∙ same_sends place m.finished (Publisher place) (name_of c) m.moments (w.last.k).moments (Some given)
      (inr (ap (λ (b : Bool). if b then false else true) quiet)) in
      let h = puts_between m place c before n after w connection link there in
      let were = puts_counted m place connection among.place before among.route w.was w.few_first found w.was_idle among.found among.same in
      let are = puts_counted n place connection among.place after among.route w.kept w.few now w.idle
      (ap (λ (rs : List Route). slice_get rs among.place) (routes_same m place c before n after w) ∙ among.found) among.same in
      waits_same m place c before n after w connection link there
      (none_put m place connection (get_or m.orders connection []) (get_or n.orders connection []) h
      (are ∙ ap (λ (xs : List FinishedCall). length xs) sends ∙ sym were))
  | inr other ↦ waits_same m place c before n after w connection link there
      ((puts_between m place c before n after w connection link there).own link there other.1)
]

pub mail_stays : (m : World) (place : ℕ) (c : Call) (before : PublisherLaneState) (n : World) (after : PublisherLaneState)
    (w : WholeCall m place c before n after) (given : Answer) → slice_get m.publishers place ≡ Some before
    → slice_get n.publishers place ≡ Some after
    → publisher_ending (w.last.k).table w.last.lane ≡ Some given → is_send given ≡ false → MailStays m n
mail_stays m place c before n after w given found now e quiet = λ connection. by_link connection (slice_get m.links connection) refl
  where
    by_link : (connection : ℕ) (at : Option LinkState) → slice_get m.links connection ≡ at → mail_at n connection ≡ mail_at m connection
    by_link connection None there =
        ap (λ (x : Option LinkState). mail_by x (get_or n.orders connection []))
        (ap (λ (ls : List LinkState). slice_get ls connection) w.links ∙ there) ∙ sym
        (ap (λ (x : Option LinkState). mail_by x (get_or m.orders connection [])) there)
    by_link connection (Some link) there
        = mail_of m n connection link w.links there (waits_on m place c before n after w given found now e quiet connection link there)

-- a send is one more
pub sends_one : (who : ℕ) (finished : List FinishedCall) (one : FinishedCall) → one.party ≡ Publisher who → is_send one.answer ≡ true
    → sends_of who (finished ++ one ∷ []) ≡ sends_of who finished ++ one ∷ []
sends_one who [] one own sends =
    append-nil _ ∙ choose_one (is_sender one.party who && is_send one.answer) (one ∷ []) []
    (both (is_sender one.party who) (is_send one.answer) (ap (λ p. is_sender p who) own ∙ eq-eqb who who refl) sends)
  where
    both : (a b : Bool) → a ≡ true → b ≡ true → (a && b) ≡ true
    both true b h g = g
    both false b h g = absurd (cc h)
sends_one who (x ∷ finished) one own sends =
    ap (λ (zs : List FinishedCall). (if is_sender x.party who && is_send x.answer then x ∷ [] else []) ++ zs)
    (sends_one who finished one own sends)
    ∙ sym (append_assoc (if is_sender x.party who && is_send x.answer then x ∷ [] else []) (sends_of who finished) (one ∷ []))

last_of : {X : Type 0} (xs : List X) (x : X) → slice_get (xs ++ x ∷ []) (length xs) ≡ Some x
last_of [] x = refl
last_of (y ∷ xs) x = last_of xs x

pub zip_at : {A B : Type 0} (R : A → B → Type 0) (xs : List A) (ys : List B) (i : ℕ) (x : A) → AllZip R xs ys → slice_get xs i ≡ Some x
    → (y : B) × R x y
zip_at R [] ys i x h e = absurd (cc e)
zip_at R (a ∷ xs) [] i x h e = absurd h
zip_at R (a ∷ xs) (b ∷ ys) zero x h e = (b, subst (λ z. R z b) (some_is a x e) h.0)
zip_at R (a ∷ xs) (b ∷ ys) (suc i) x h e = zip_at R xs ys i x h.1 e

-- a put was taken in
abbrev is_taken : PushAnswer → Bool
is_taken Kept = true
is_taken (LeftOut oldest) = true
is_taken Refused = false

taken_is : (o b : Bool) (oldest : ℕ) → is_taken (if b then Kept else (if o then LeftOut oldest else Refused)) ≡ (o || b)
taken_is true true oldest = refl
taken_is true false oldest = refl
taken_is false true oldest = refl
taken_is false false oldest = refl

-- what a send tells has its delivery
delivery_told : (fails : Bool) (delivery : Delivery) → delivery_in (send_answer fails delivery) ≡ delivery
delivery_told fails delivery = by_test (fails && nat_lt 0 delivery.refused)
  where
    by_test : (b : Bool) → delivery_in (if b then UnableToDeliver delivery else Delivered delivery) ≡ delivery
    by_test true = refl
    by_test false = refl

-- a send as it ended, and its puts
pub record SentNow (m : World) (place slot : ℕ) (before : PublisherLaneState) (delivery : Delivery) (n : World) : Type 0 where
  pub one : FinishedCall
  pub sent : IsSent n.orders before.fails before.port.routes (length (sends_of place m.finished)) one
  pub slot_is : sent.slot ≡ slot
  pub delivery_is : sent.delivery ≡ delivery
  pub more : length (sends_of place n.finished) ≡ length (sends_of place m.finished) + 1

pub sent_now : (m : World) (place slot : ℕ) (before : PublisherLaneState) (n : World) (after : PublisherLaneState)
    (w : WholeCall m place (call.Send slot) before n after) (delivery : Delivery) → slice_get n.publishers place ≡ Some after
    → publisher_ending (w.last.k).table w.last.lane ≡ Some (answer.Sent (send_answer before.fails delivery))
    → SentNow m place slot before delivery n
sent_now m place slot before n after w delivery now e =
    let ended = answered_by m place (call.Send slot) before n after w (answer.Sent (send_answer before.fails delivery)) e in
    let all : sends_of place n.finished ≡ sends_of place m.finished ++ ended.call ∷ []
    = ap (sends_of place) ended.more ∙ sends_one place m.finished ended.call ended.own (ap is_send ended.answered) in
    let puts : SendsPut n place after.fails after.port.routes after.first after.port.call = w.kept.sends w.few place after now in
    let sent : IsSent n.orders before.fails before.port.routes (length (sends_of place m.finished)) ended.call =
    subst (λ (f : Bool). IsSent n.orders f before.port.routes (length (sends_of place m.finished)) ended.call)
    (fails_same m place (call.Send slot) before n after w)
    (subst (λ (rs : List Route). IsSent n.orders after.fails rs (length (sends_of place m.finished)) ended.call)
    (routes_same m place (call.Send slot) before n after w)
    (puts.sent (length (sends_of place m.finished)) ended.call
    (ap (λ (xs : List FinishedCall). slice_get xs (length (sends_of place m.finished))) all ∙ last_of (sends_of place m.finished)
    ended.call))) in
    record {
      one = ended.call;
      sent = sent;
      slot_is = slot_of sent.slot slot (sym sent.asked ∙ ended.asked);
      delivery_is = same_delivery before.fails sent.delivery delivery (sym sent.answered ∙ ended.answered);
      more = ap (λ (xs : List FinishedCall). length xs) all ∙ length-append (sends_of place m.finished) (ended.call ∷ []);
    }
  where
    slot_of : (a b : ℕ) → name_of (call.Send a) ≡ name_of (call.Send b) → a ≡ b
    slot_of a b h = cc h

    given_is : (a b : SendAnswer) → answer.Sent a ≡ answer.Sent b → a ≡ b
    given_is a b h = cc h

    same_delivery : (f : Bool) (a b : Delivery) → answer.Sent (send_answer f a) ≡ answer.Sent (send_answer f b) → a ≡ b
    same_delivery f a b h = sym (delivery_told f a) ∙ ap delivery_in (given_is (send_answer f a) (send_answer f b) h) ∙ delivery_told f b

-- what was put at a connection of the publisher, and how that was answered
record PutThere (m n : World) (connection : ℕ) (link : LinkState) (slot : ℕ) (given : PushAnswer) : Type 0 where
  mail : mail_at n connection ≡ after_put (overflows link.kind) link.limit (mail_at m connection) slot
  answered : given ≡ put_answer (overflows link.kind) link.limit (mail_at m connection) slot

put_there : (m : World) (place slot : ℕ) (before : PublisherLaneState) (n : World) (after : PublisherLaneState)
    (w : WholeCall m place (call.Send slot) before n after) (delivery : Delivery) (s : SentNow m place slot before delivery n)
    → slice_get m.publishers place ≡ Some before → slice_get n.publishers place ≡ Some after
    → (connection i : ℕ) (link : LinkState) (route : Route) (given : PushAnswer) → slice_get m.links connection ≡ Some link
    → slice_get before.port.routes i ≡ Some route → route.connection ≡ connection
    → IsPutAt n.orders (length (sends_of place m.finished)) s.sent.slot s.one.first s.one.last route given
    → PutThere m n connection link slot given
put_there m place slot before n after w delivery s found now connection i link route given there at same p =
    let h = puts_between m place (call.Send slot) before n after w connection link there in
    let were = puts_counted m place connection i before route w.was w.few_first found w.was_idle at same in
    let are = puts_counted n place connection i after route w.kept w.few now w.idle
    (ap (λ (rs : List Route). slice_get rs i) (routes_same m place (call.Send slot) before n after w) ∙ at) same in
    let one = one_more_put m place connection (get_or m.orders connection []) (get_or n.orders connection []) h
    (omega (arith, are, were, s.more)) in
    let last = one.last p.put (ap (slice_get (puts (get_or n.orders connection []))) were ∙ subst
    (λ (c : ℕ). slice_get (puts (get_or n.orders c [])) (length (sends_of place m.finished)) ≡ Some p.put) same p.found) in
    let value : one.value ≡ slot = sym last.0 ∙ p.value ∙ s.slot_is in
    let said : one.answer ≡ given = sym last.1 ∙ p.answered in
    let waited : mail_at m connection ≡ waiting link (get_or m.orders connection []) = mail_is m connection link there in
    let right = (subst (λ (acts : List Act). Acts (overflows link.kind) link.limit (waiting link (get_or m.orders connection [])) acts)
    one.is
    (answered_more link (get_or m.orders connection []) (get_or n.orders connection []) h.acts h.more
    ((w.kept.rings w.few) connection link (get_or n.orders connection [])
    (ap (λ (ls : List LinkState). slice_get ls connection) w.links ∙ there)
    (order_there n connection link w.kept (ap (λ (ls : List LinkState). slice_get ls connection) w.links ∙ there))).mailbox.acts)).0 in
    record {
      mail = mail_is n connection link (ap (λ (ls : List LinkState). slice_get ls connection) w.links ∙ there)
          ∙ waits_more link (get_or m.orders connection []) (get_or n.orders connection []) h.acts h.more
          ∙ ap (after_acts (overflows link.kind) link.limit (waiting link (get_or m.orders connection []))) one.is
          ∙ ap (after_put (overflows link.kind) link.limit (waiting link (get_or m.orders connection []))) value
          ∙ sym (ap (λ (q : List ℕ). after_put (overflows link.kind) link.limit q slot) waited);
      answered = sym said ∙ right ∙ ap (put_answer (overflows link.kind) link.limit (waiting link (get_or m.orders connection []))) value
          ∙ sym (ap (λ (q : List ℕ). put_answer (overflows link.kind) link.limit q slot) waited);
    }

pub mail_put : (m : World) (place slot : ℕ) (before : PublisherLaneState) (n : World) (after : PublisherLaneState)
    (w : WholeCall m place (call.Send slot) before n after) (delivery : Delivery) (s : SentNow m place slot before delivery n)
    → slice_get m.publishers place ≡ Some before → slice_get n.publishers place ≡ Some after → (connection : ℕ) (link : LinkState)
    → slice_get m.links connection ≡ Some link → link.publisher ≡ place
    → mail_at n connection ≡ after_put (overflows link.kind) link.limit (mail_at m connection) slot
mail_put m place slot before n after w delivery s found now connection link there own =
    let among : IsAmong before.port.routes connection
    = (w.was.sends w.few_first place before found).connections.each connection link there own in
    let p = zip_at (IsPutAt n.orders (length (sends_of place m.finished)) s.sent.slot s.one.first s.one.last) before.port.routes
    s.sent.puts.answers among.place among.route s.sent.puts.puts among.found in
    (put_there m place slot before n after w delivery s found now connection among.place link among.route p.0 there among.found
    among.same p.1).mail

-- a put is taken in just where the connection takes it
abbrev TakenWhere : World → World → ℕ → ℕ → FinishedCall → ℕ → Route → Type 0
TakenWhere m n number slot one place route = (given : PushAnswer) → IsPutAt n.orders number slot one.first one.last route given
    → is_taken given ≡ route_takes m route

taken_where : (m : World) (place slot : ℕ) (before : PublisherLaneState) (n : World) (after : PublisherLaneState)
    (w : WholeCall m place (call.Send slot) before n after) (delivery : Delivery) (s : SentNow m place slot before delivery n)
    → slice_get m.publishers place ≡ Some before → slice_get n.publishers place ≡ Some after → (i : ℕ) (route : Route)
    → slice_get before.port.routes i ≡ Some route → TakenWhere m n (length (sends_of place m.finished)) s.sent.slot s.one place route
taken_where m place slot before n after w delivery s found now i route at = λ given p.
    let mine : IsLinkOf m.links sender place route
    = all_at (IsLinkOf m.links sender place) before.port.routes i route at (w.was.within.senders place before found) in
    let there = put_there m place slot before n after w delivery s found now route.connection i mine.link route given mine.found at refl
    p in
    ap is_taken there.answered ∙ taken_is (overflows mine.link.kind) (nat_lt (length (mail_at m route.connection)) mine.link.limit) _ ∙
    sym (ap (λ (x : Option LinkState). takes_in x (mail_at m route.connection)) mine.found)

up : (n : ℕ) → n + 1 ≡ 1 + n
up n = omega arith

none : (n : ℕ) → n ≡ 0 + n
none n = omega arith

-- one connection more passes a test or doesn't
more_by : (test : Route → Bool) (r : Route) (routes : List Route) (b : Bool) (count : ℕ) → b ≡ test r → count ≡ count_by test routes
    → cond b 1 0 + count ≡ count_by test (r ∷ routes)
more_by test r routes b count e h = ap (λ (x : Bool). cond x 1 0 + count) e ∙ ap (λ (k : ℕ). cond (test r) 1 0 + k) h ∙ sym
    (sum_by-cons (λ x. cond (test x) 1 0) r routes)

-- one put more is counted as one connection more
one_counted : (m : World) (r : Route) (routes : List Route) (x : PushAnswer) (answers : List PushAnswer) → is_taken x ≡ route_takes m r
    → (taken_among answers ≡ count_by (route_takes m) routes)
    × (refused_among answers ≡ count_by (λ route. not (route_takes m route)) routes)
    → (taken_among (x ∷ answers) ≡ count_by (route_takes m) (r ∷ routes))
    × (refused_among (x ∷ answers) ≡ count_by (λ route. not (route_takes m route)) (r ∷ routes))
one_counted m r routes Kept answers e rest = (
  up (taken_among answers) ∙ more_by (route_takes m) r routes true (taken_among answers) e rest.0,
  none (refused_among answers) ∙ more_by (λ route. not (route_takes m route)) r routes false (refused_among answers) (ap not e) rest.1,
)
one_counted m r routes (LeftOut oldest) answers e rest = (
  up (taken_among answers) ∙ more_by (route_takes m) r routes true (taken_among answers) e rest.0,
  none (refused_among answers) ∙ more_by (λ route. not (route_takes m route)) r routes false (refused_among answers) (ap not e) rest.1,
)
one_counted m r routes Refused answers e rest = (
  none (taken_among answers) ∙ more_by (route_takes m) r routes false (taken_among answers) e rest.0,
  up (refused_among answers) ∙ more_by (λ route. not (route_takes m route)) r routes true (refused_among answers) (ap not e) rest.1,
)

count_taken : (m n : World) (number slot place : ℕ) (one : FinishedCall) (routes : List Route) (answers : List PushAnswer)
    → ((i : ℕ) (route : Route) → slice_get routes i ≡ Some route → TakenWhere m n number slot one place route)
    → AllZip (IsPutAt n.orders number slot one.first one.last) routes answers
    → (taken_among answers ≡ count_by (route_takes m) routes)
    × (refused_among answers ≡ count_by (λ route. not (route_takes m route)) routes)
count_taken m n number slot place one [] [] q h = (refl, refl)
count_taken m n number slot place one [] (a ∷ answers) q h = absurd h
count_taken m n number slot place one (r ∷ routes) [] q h = absurd h
count_taken m n number slot place one (r ∷ routes) (a ∷ answers) q h =
    one_counted m r routes a answers (q 0 r refl a h.0)
    (count_taken m n number slot place one routes answers (λ i route at. q (suc i) route at) h.1)

pub counted : (m : World) (place slot : ℕ) (before : PublisherLaneState) (n : World) (after : PublisherLaneState)
    (w : WholeCall m place (call.Send slot) before n after) (delivery : Delivery) (s : SentNow m place slot before delivery n)
    → slice_get m.publishers place ≡ Some before → slice_get n.publishers place ≡ Some after
    → (delivery.taken ≡ count_by (route_takes m) before.port.routes)
    × (delivery.refused ≡ count_by (λ route. not (route_takes m route)) before.port.routes)
counted m place slot before n after w delivery s found now =
    let both = count_taken m n (length (sends_of place m.finished)) s.sent.slot place s.one before.port.routes s.sent.puts.answers
    (λ i route at. taken_where m place slot before n after w delivery s found now i route at) s.sent.puts.puts in
    let is : s.sent.delivery ≡ _ = s.sent.puts.counted in (
      ap (λ (d : Delivery). d.taken) (sym s.delivery_is ∙ is) ∙ both.0,
      ap (λ (d : Delivery). d.refused) (sym s.delivery_is ∙ is) ∙ both.1,
    )
