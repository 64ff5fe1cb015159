-- What a publisher and one of its connections keep through an update.
use Rattle.std.proofs.Common.{arith, ◌≡◌, ◌≢◌, ◌+◌, ◌-◌, ◌≤◌, ◌&&◌, ◌==◌, ◌⊎◌, ◌∷◌, [], ◌++◌, append-nil, ℕ, zero, suc, Bool, true, false}
use Rattle.std.proofs.Common.{List, get_or, set, length, Option, None, Some, Result, Ok, Err, refl, sym, ap, ◌∙◌, subst, if◌then◌else◌}
use Rattle.std.proofs.Common.{inl, inr}
use Rattle.std.proofs.lemmas.Bool.{cases_eq}
use Rattle.std.proofs.lemmas.List.{get_or-set_other, get_or-set_same}
use Rattle.std.specs.declared.alloc.AllocError.{AllocError}
use Rattle.iox_domain.specs.Container.declared.container.Member.{Member}
use Rattle.iox_domain.specs.DomainValues.declared.connection_failure.ConnectionFailure.{ConnectionFailure}
use Rattle.iox_domain.specs.DomainValues.declared.degradation.DegradationAction.{DegradationAction}
use Rattle.iox_domain.specs.DomainValues.declared.degradation.DegradationInfo.{DegradationInfo}
use Rattle.iox_domain.specs.DomainSlots.Uses.{nobody, newest, ended, welcomed}
use Rattle.iox_domain.specs.DomainPorts.Messages.{Message}
use Rattle.iox_domain.specs.DomainPorts.Places.{leads_to, reached}
use Rattle.iox_domain.specs.DomainPorts.Ports.{connection_of, connection_to, goes_on, is_live, with_connection_of, greeted_at, Joins}
use Rattle.iox_domain.specs.DomainPorts.Ties.{tie_put}
use Rattle.iox_domain.specs.DomainPorts.PublisherUpdating.{is_tie_to, let_go_of, untied, untied_from, within_reach, tied, Ties, Follows}
use Rattle.iox_domain.specs.DomainPorts.PublisherUpdating.{FollowsTo, FollowsAll, UpdatesIf, Updates}
use Rattle.iox_domain.specs.DomainPorts.declared.publisher_port.PublisherPort.{PublisherPort}
use Rattle.iox_domain.specs.DomainPorts.declared.subscriber_entry.SubscriberEntry.{SubscriberEntry}
use Rattle.iox_domain.specs.PortLawsLaws.{IsListApart, IsTiedWell}
use Rattle.iox_domain.specs.Gaps.{AreNumbered}
use Rattle.iox_domain.specs.Order.{IsPartOf, leads_at}
use Rattle.iox_domain.proofs.Books.{Books, Missing, got_leads}
use Rattle.iox_domain.proofs.Once.{live_within}
use Rattle.iox_domain.proofs.PortLawsParts.{part_on, part_drop, part_nothing, none_first}
use Rattle.iox_domain.proofs.TiedWell.{leads_both, gone_there, long_enough, still_there, steps_untied, well_alike, alike_still}
use Rattle.iox_domain.proofs.TiedUpdates.{MadeAt, connects_made, follows_well, tied_joined, TiedTo}

-- no place lists a subscriber
abbrev IsUnlisted : List (Option (Member SubscriberEntry)) → ℕ → Type 0
IsUnlisted places subscriber = (place : ℕ) (member : Member SubscriberEntry) → get_or places place None ≡ Some member
    → member.value.subscriber ≢ subscriber

-- What is true of a publisher without a blocked send, and of a connection, in the middle of an update: if the connection doesn't
-- exist, nothing was taken from it, or its subscriber isn't listed.
record Midway {T U : Type 0} (places : List (Option (Member SubscriberEntry))) (index subscriber : ℕ) (sent taken : List (Message T U))
    (port : PublisherPort T U) : Type 0 where
  history : IsPartOf port.sender.uses.history sent
  part : leads_at index subscriber port ≡ true → IsPartOf (taken ++ (connection_of index port).waiting) sent
  idle : leads_at index subscriber port ≡ true → ((place : ℕ) → get_or port.ties.items place None ≢ Some index)
      → taken ++ (connection_of index port).waiting ≡ []
  gone : leads_at index subscriber port ≡ false → (taken ≡ []) ⊎ IsUnlisted places subscriber

-- what an update leaves as it is
record Left {T U : Type 0} (old new : PublisherPort T U) : Type 0 where
  sending : new.sender.uses.sending ≡ old.sender.uses.sending
  history : new.sender.uses.history ≡ old.sender.uses.history
  loans : new.sender.uses.loans ≡ old.sender.uses.loans
  sequence : new.last_sequence ≡ old.last_sequence

left_is : {T U : Type 0} (old new : PublisherPort T U) → new ≡ old → Left old new
left_is old new is = record {
  sending = ap (λ port. port.sender.uses.sending) is;
  history = ap (λ port. port.sender.uses.history) is;
  loans = ap (λ port. port.sender.uses.loans) is;
  sequence = ap (λ port. port.last_sequence) is;
}

left_on : {T U : Type 0} (old between new : PublisherPort T U) → Left old between → Left between new → Left old new
left_on old between new one two = record {
  sending = two.sending ∙ one.sending;
  history = two.history ∙ one.history;
  loans = two.loans ∙ one.loans;
  sequence = two.sequence ∙ one.sequence;
}

-- the connection is as it was, and the publisher's history; what was tied to it is
record Alike {T U : Type 0} (index subscriber : ℕ) (old new : PublisherPort T U) : Type 0 where
  left : Left old new
  leads : leads_at index subscriber new ≡ leads_at index subscriber old
  waits : (connection_of index new).waiting ≡ (connection_of index old).waiting
  ties : (place : ℕ) → get_or old.ties.items place None ≡ Some index → get_or new.ties.items place None ≡ Some index

midway_alike : {T U : Type 0} (places : List (Option (Member SubscriberEntry))) (index subscriber : ℕ) (sent taken : List (Message T U))
    (old new : PublisherPort T U) → Alike index subscriber old new
    → Midway places index subscriber sent taken old → Midway places index subscriber sent taken new
midway_alike {T} {U} places index subscriber sent taken old new alike midway = record {
  history = subst (λ (all : List (Message T U)). IsPartOf all sent) (sym alike.left.history) midway.history;
  part = λ leads. subst (λ (all : List (Message T U)). IsPartOf (taken ++ all) sent) (sym alike.waits)
      (midway.part (sym alike.leads ∙ leads));
  idle = λ leads untied. ap (λ all. taken ++ all) alike.waits ∙ midway.idle (sym alike.leads ∙ leads)
      (λ place tie. untied place (alike.ties place tie));
  gone = λ gone. midway.gone (sym alike.leads ∙ gone);
}

alike_is : {T U : Type 0} (index subscriber : ℕ) (old new : PublisherPort T U) → new ≡ old → Alike index subscriber old new
alike_is index subscriber old new is = record {
  left = left_is old new is;
  leads = ap (λ port. leads_at index subscriber port) is;
  waits = ap (λ port. (connection_of index port).waiting) is;
  ties = λ place tie. ap (λ port. get_or port.ties.items place None) is ∙ tie;
}

-- the readers and the connection of another index change
other_leads : {T U : Type 0} (index other subscriber : ℕ) (old new : PublisherPort T U)
    → connection_of index new ≡ connection_of index old → get_or new.readers index None ≡ get_or old.readers index None
    → leads_at index subscriber new ≡ leads_at index subscriber old
other_leads index other subscriber old new connections readers =
    ap (λ one. goes_on one.stage && leads_to subscriber (get_or new.readers index None)) connections ∙ ap
    (λ reader. is_live index old && leads_to subscriber reader) readers

-- the connection that a place was tied to ends
no_tie_left : {T U : Type 0} (place index at : ℕ) (port : PublisherPort T U) → get_or port.ties.items place None ≡ Some at → index ≢ at
    → (other : ℕ) → get_or port.ties.items other None ≡ Some index → get_or (set port.ties.items place None) other None ≡ Some index
no_tie_left place index at port tie not other there = elim (cases_eq other place) [
  | inl same ↦
      let both : Some index ≡ Some at = sym there ∙ ap (λ n. get_or port.ties.items n None) same ∙ tie in
      let is : index ≡ at = cc in
      absurd (not is)
  | inr apart ↦ get_or-set_other port.ties.items place other None None apart ∙ there
]

both_false : (a b : Bool) → b ≡ false → a && b ≡ false
both_false true b is = is
both_false false b is = refl

let_go_mid : {T U : Type 0} (places : List (Option (Member SubscriberEntry))) (index subscriber : ℕ) (sent taken : List (Message T U))
    (place at : ℕ) (live : Bool) (port gone : PublisherPort T U)
    → get_or port.ties.items place None ≡ Some at → is_live at port ≡ live → gone ≡ record port { ties = tie_put place None port.ties }
    → live ≡ true
    → (leads_to subscriber (get_or port.readers at None) ≡ true → IsUnlisted places subscriber)
    → Midway places index subscriber sent taken port
    → Midway places index subscriber sent taken
    (if live then record (with_connection_of at (ended (connection_of at gone)) gone) { readers = set gone.readers at None } else gone)
let_go_mid places index subscriber sent taken place at false port gone tie live is must unlisted midway = let no : false ≡ true
    = must in absurd (cc)
let_go_mid {T} {U} places index subscriber sent taken place at true port gone tie live is must unlisted midway =
    let new : PublisherPort T U = record (with_connection_of at (ended (connection_of at gone)) gone)
    { readers = set gone.readers at None } in
    let history : new.sender.uses.history ≡ port.sender.uses.history = ap (λ one. one.sender.uses.history) is in
    elim (cases_eq index at) [
      | inl same ↦
          let dead : leads_at index subscriber new ≡ false
          = ap (λ n. leads_at n subscriber new) same ∙ both_false (is_live at new) _
          (ap (λ reader. leads_to subscriber reader) (gone_there gone.readers at)) in
          record {
            history = subst (λ (all : List (Message T U)). IsPartOf all sent) (sym history) midway.history;
            part = λ leads. let no : false ≡ true = sym dead ∙ leads in absurd (cc);
            idle = λ leads. let no : false ≡ true = sym dead ∙ leads in absurd (cc);
            gone = λ off. was_there same (leads_to subscriber (get_or port.readers at None)) refl;
          }
      | inr not ↦ midway_alike places index subscriber sent taken port new (record {
        left = record {
          sending = ap (λ one. one.sender.uses.sending) is;
          history = history;
          loans = ap (λ one. one.sender.uses.loans) is;
          sequence = ap (λ one. one.last_sequence) is;
        };
        leads = other_leads index at subscriber port new
            (get_or-set_other gone.sender.uses.connections at index (ended (connection_of at gone)) nobody not ∙ ap
            (λ one. connection_of index one) is)
            (get_or-set_other gone.readers at index None None not ∙ ap (λ one. get_or one.readers index None) is);
        waits = ap (λ one. one.waiting) (get_or-set_other gone.sender.uses.connections at index (ended (connection_of at gone)) nobody
            not ∙ ap (λ one. connection_of index one) is);
        ties = λ other there. ap (λ one. get_or one.ties.items other None) is ∙ no_tie_left place index at port tie not other there;
      }) midway
    ]
  where
    was_there : index ≡ at → (led : Bool) → leads_to subscriber (get_or port.readers at None) ≡ led → (taken ≡ [])
        ⊎ IsUnlisted places subscriber
    was_there same true led = inr (unlisted led)
    was_there same false led = midway.gone
        (both_false (is_live index port) _ (ap (λ n. leads_to subscriber (get_or port.readers n None)) same ∙ led))

let_go_of_mid : {T U : Type 0} (next : ℕ) (places : List (Option (Member SubscriberEntry))) (index subscriber : ℕ)
    (sent taken : List (Message T U)) (place : ℕ) (tie : Option ℕ) (port : PublisherPort T U) → get_or port.ties.items place None ≡ tie
    → IsTiedWell next places port → ((at : ℕ) → tie ≡ Some at → leads_to subscriber (get_or port.readers at None) ≡ true
    → IsUnlisted places subscriber) → Midway places index subscriber sent taken port
    → Midway places index subscriber sent taken (let_go_of place tie port)
let_go_of_mid next places index subscriber sent taken place None port tie well unlisted midway = midway
let_go_of_mid {T} {U} next places index subscriber sent taken place (Some at) port tie well unlisted midway =
    let gone : PublisherPort T U = record port { ties = tie_put place None port.ties } in
    let_go_mid places index subscriber sent taken place at (is_live at port) port gone tie refl refl (well.live place at tie)
    (unlisted at refl) midway

-- a subscriber whose tie is at another place than its own isn't listed
unlisted_by : {T U : Type 0} (next : ℕ) (places : List (Option (Member SubscriberEntry))) (subscriber place at : ℕ)
    (port : PublisherPort T U) → IsTiedWell next places port → get_or port.ties.items place None ≡ Some at
    → ((member : Member SubscriberEntry) → get_or places place None ≡ Some member → member.value.subscriber ≢ subscriber)
    → leads_to subscriber (get_or port.readers at None) ≡ true → IsUnlisted places subscriber
unlisted_by next places subscriber place at port well tie here leads other member listed same = elim (cases_eq other place) [
  | inl at_place ↦ here member (ap (λ n. get_or places n None) (sym at_place) ∙ listed) same
  | inr apart ↦
      let led : is_tie_to member.value.subscriber (get_or port.ties.items place None) port ≡ true
      = ap (λ t. is_tie_to member.value.subscriber t port) tie ∙ ap (λ n. leads_to n (get_or port.readers at None)) same ∙ leads in
      let no : false ≡ true = sym (well.alone other place member listed (λ is. apart (sym is))) ∙ led in cc
]

untied_mid : {T U : Type 0} (next : ℕ) (places : List (Option (Member SubscriberEntry))) (index subscriber : ℕ)
    (sent taken : List (Message T U)) (place : ℕ) (port : PublisherPort T U) → IsTiedWell next places port
    → ((at : ℕ) (member : Member SubscriberEntry) → get_or port.ties.items place None ≡ Some at → get_or places place None ≡ Some member
    → leads_to member.value.subscriber (get_or port.readers at None) ≡ false)
    → Midway places index subscriber sent taken port → Midway places index subscriber sent taken (untied place port)
untied_mid next places index subscriber sent taken place port well not_its midway =
    let_go_of_mid next places index subscriber sent taken place (get_or port.ties.items place None) port refl well
    (λ at tie leads. unlisted_by next places subscriber place at port well tie
    (λ member listed same. let no : true ≡ false
    = sym leads ∙ ap (λ n. leads_to n (get_or port.readers at None)) (sym same) ∙ not_its at member tie listed in cc) leads)
    midway

-- a place that may be tied
reached_alike : {T U : Type 0} (index subscriber place : ℕ) (port : PublisherPort T U)
    → Alike index subscriber port (within_reach place port)
reached_alike index subscriber place port = record {
  left = record { sending = refl; history = refl; loans = refl; sequence = refl };
  leads = refl;
  waits = refl;
  ties = λ at tie. still_there port.ties.items (place + 1 - length port.ties.items) at ∙ tie;
}

both_true : (a b : Bool) → a ≡ true → b ≡ true → a && b ≡ true
both_true true true first second = refl
both_true true false first second = cc
both_true false b first second = cc

second_true : (a b : Bool) → a && b ≡ true → b ≡ true
second_true true b is = is
second_true false b is = cc

one_member : (one other : Member SubscriberEntry) (found : Option (Member SubscriberEntry)) → found ≡ Some one → found ≡ Some other
    → one ≡ other
one_member one other found first second = let both : Some one ≡ Some other = sym first ∙ second in cc

-- what is left as it is where a place is untied
let_go_left : {T U : Type 0} (at : ℕ) (live : Bool) (port gone : PublisherPort T U) → Left port gone
    → Left port (if live then record (with_connection_of at (ended (connection_of at gone)) gone) { readers = set gone.readers at None }
    else gone)
let_go_left at true port gone left = record { sending = left.sending; history = left.history; loans = left.loans; sequence = left.sequence }
let_go_left at false port gone left = left

untied_left : {T U : Type 0} (place : ℕ) (tie : Option ℕ) (port : PublisherPort T U) → Left port (let_go_of place tie port)
untied_left place None port = left_is port port refl
untied_left {T} {U} place (Some at) port =
    let gone : PublisherPort T U = record port { ties = tie_put place None port.ties } in
    let_go_left at (is_live at gone) port gone (record { sending = refl; history = refl; loans = refl; sequence = refl })

none_after : {T U : Type 0} (place at : ℕ) (live : Bool) (port gone : PublisherPort T U) → gone.ties ≡ tie_put place None port.ties
    → get_or (if live then record (with_connection_of at (ended (connection_of at gone)) gone) { readers = set gone.readers at None }
    else gone).ties.items place None ≡ None
none_after place at true port gone is = ap (λ ties. get_or ties.items place None) is ∙ gone_there port.ties.items place
none_after place at false port gone is = ap (λ ties. get_or ties.items place None) is ∙ gone_there port.ties.items place

untied_none : {T U : Type 0} (place : ℕ) (tie : Option ℕ) (port : PublisherPort T U) → get_or port.ties.items place None ≡ tie
    → get_or (let_go_of place tie port).ties.items place None ≡ None
untied_none place None port is = is
untied_none {T} {U} place (Some at) port is =
    let gone : PublisherPort T U = record port { ties = tie_put place None port.ties } in
    none_after place at (is_live at gone) port gone refl

greeted_left : {T U : Type 0} (at : ℕ) (live : Bool) (waiting : List (Message T U)) (old given : PublisherPort T U) → Left old given
    → Left old (if live then greeted_at at waiting given else given)
greeted_left at false waiting old given left = left
greeted_left at true (message ∷ waiting) old given left = left
greeted_left at true [] old given left
    = record { sending = left.sending; history = left.history; loans = left.loans; sequence = left.sequence }

joined_ties : {T U : Type 0} (place at limit subscriber : ℕ) (found : Option ℕ) (old joined : PublisherPort T U)
    → Joins subscriber limit found (within_reach place old) (Ok at) joined → joined.ties ≡ (within_reach place old).ties
joined_ties place at limit subscriber (Some there) old joined joins = ap (λ port. port.ties) joins.1
joined_ties place at limit subscriber None old joined joins = ap (λ port. port.ties) joins.2

-- a connection is made for a subscriber that is listed
made_mid : {T U : Type 0} (places : List (Option (Member SubscriberEntry))) (index subscriber : ℕ) (sent taken : List (Message T U))
    (place at : ℕ) (member : Member SubscriberEntry) (old new : PublisherPort T U) → get_or places place None ≡ Some member
    → MadeAt member.value.subscriber at old new → Left old new → Midway places index subscriber sent taken old
    → Midway places index subscriber sent taken new
made_mid {T} {U} places index subscriber sent taken place at member old new listed made left midway = elim (cases_eq index at) [
  | inl same ↦
      let was_not : leads_at index subscriber old ≡ false
      = ap (λ n. leads_at n subscriber old) same ∙ ap (λ b. b && leads_to subscriber (get_or old.readers at None)) made.none in
      let waits : (connection_of index new).waiting ≡ [] = ap (λ n. (connection_of n new).waiting) same ∙ made.waits in
      record {
        history = subst (λ (all : List (Message T U)). IsPartOf all sent) (sym left.history) midway.history;
        part = λ leads. part_nothing _ sent (nothing same (midway.gone was_not) waits leads);
        idle = λ leads untied. nothing same (midway.gone was_not) waits leads;
        gone = λ off. midway.gone was_not;
      }
  | inr not ↦ midway_alike places index subscriber sent taken old new (record {
    left = left;
    leads = other_leads index at subscriber old new (made.others index not) (made.readers index not);
    waits = ap (λ one. one.waiting) (made.others index not);
    ties = λ other tie. ap (λ ties. get_or ties.items other None) made.ties ∙ tie;
  }) midway
]
  where
    nothing : index ≡ at → (taken ≡ []) ⊎ IsUnlisted places subscriber → (connection_of index new).waiting ≡ []
        → leads_at index subscriber new ≡ true → taken ++ (connection_of index new).waiting ≡ []
    nothing same (inl none) waits leads = ap (λ all. taken ++ all) waits ∙ append-nil taken ∙ none
    nothing same (inr unlisted) waits leads =
        let leads_here : leads_to subscriber (get_or new.readers at None) ≡ true
        = second_true (is_live at new) _ (ap (λ n. leads_at n subscriber new) (sym same) ∙ leads) in
        absurd (unlisted place member listed
        (leads_both member.value.subscriber subscriber (get_or new.readers at None) made.leads_there leads_here))

joined_mid : {T U : Type 0} (places : List (Option (Member SubscriberEntry))) (index subscriber : ℕ) (sent taken : List (Message T U))
    (place at limit : ℕ) (member : Member SubscriberEntry) (found : Option ℕ) (old joined : PublisherPort T U)
    → get_or places place None ≡ Some member → Joins member.value.subscriber limit found (within_reach place old) (Ok at) joined
    → Midway places index subscriber sent taken old → Midway places index subscriber sent taken joined × Left old joined
joined_mid {T} {U} places index subscriber sent taken place at limit member (Some there) old joined listed joins midway =
    let reached_mid = midway_alike places index subscriber sent taken old (within_reach place old)
    (reached_alike index subscriber place old) midway in (
      midway_alike places index subscriber sent taken (within_reach place old) joined
          (alike_is index subscriber (within_reach place old) joined joins.1) reached_mid,
      left_on old (within_reach place old) joined (record { sending = refl; history = refl; loans = refl; sequence = refl })
          (left_is (within_reach place old) joined joins.1),
    )
joined_mid {T} {U} places index subscriber sent taken place at limit member None old joined listed joins midway =
    let reached_mid = midway_alike places index subscriber sent taken old (within_reach place old)
    (reached_alike index subscriber place old) midway in
    let left : Left (within_reach place old) joined = record {
      sending = ap (λ port. port.sender.uses.sending) joins.2;
      history = ap (λ port. port.sender.uses.history) joins.2;
      loans = ap (λ port. port.sender.uses.loans) joins.2;
      sequence = ap (λ port. port.last_sequence) joins.2;
    } in (
      made_mid places index subscriber sent taken place at member (within_reach place old) joined listed
          (connects_made member.value.subscriber limit at false (within_reach place old) joined joins) left reached_mid,
      left_on old (within_reach place old) joined (record { sending = refl; history = refl; loans = refl; sequence = refl }) left,
    )

-- of a connection to which nothing was delivered, and from which nothing was taken, the history waits
greeted_part : {T U : Type 0} (sent taken history waiting before : List (Message T U)) (limit : ℕ) → waiting ≡ newest limit history
    → taken ++ before ≡ [] → IsPartOf history sent → IsPartOf (taken ++ waiting) sent
greeted_part {T} {U} sent taken history waiting before limit is none part =
    let newest_part : IsPartOf (newest limit history) sent = part_on _ history sent (part_drop (length history - limit) history) part in
    let waits : IsPartOf waiting sent = subst (λ (all : List (Message T U)). IsPartOf all sent) (sym is) newest_part in
    subst (λ (all : List (Message T U)). IsPartOf (all ++ waiting) sent) (sym (none_first taken before none)) waits

-- a connection that nothing was delivered to is greeted
greeted_mid : {T U : Type 0} (places : List (Option (Member SubscriberEntry))) (index subscriber : ℕ) (sent taken : List (Message T U))
    (at : ℕ) (live : Bool) (waiting : List (Message T U)) (old given : PublisherPort T U) → is_live at given ≡ live
    → (connection_of at given).waiting ≡ waiting → Alike index subscriber old given
    → (index ≡ at → (place : ℕ) → get_or old.ties.items place None ≢ Some index)
    → (index ≡ at → (place : ℕ) × (get_or given.ties.items place None ≡ Some index)) → Midway places index subscriber sent taken old
    → Midway places index subscriber sent taken (if live then greeted_at at waiting given else given)
greeted_mid places index subscriber sent taken at false waiting old given live waits alike free tie midway
    = midway_alike places index subscriber sent taken old given alike midway
greeted_mid places index subscriber sent taken at true (message ∷ waiting) old given live waits alike free tie midway
    = midway_alike places index subscriber sent taken old given alike midway
greeted_mid {T} {U} places index subscriber sent taken at true [] old given live waits alike free tie midway =
    let history : List (Message T U) = given.sender.uses.history in
    let new : PublisherPort T U = with_connection_of at (welcomed history (connection_of at given)) given in
    let mid : Midway places index subscriber sent taken given = midway_alike places index subscriber sent taken old given alike midway in
    elim (cases_eq index at) [
      | inl same ↦
          let here : connection_of index new ≡ welcomed history (connection_of at given) =
          ap (λ n. connection_of n new) same ∙ get_or-set_same given.sender.uses.connections at
          (welcomed history (connection_of at given)) nobody (live_within at given live) in
          let leads_is : leads_at index subscriber new ≡ leads_at index subscriber given
          = got_leads index subscriber given new (ap (λ one. one.stage) here ∙ ap (λ n. (connection_of n given).stage) (sym same))
          refl in
          let waits_is : (connection_of index new).waiting ≡ newest (connection_of at given).limit history = ap (λ one. one.waiting) here in
          record {
            history = mid.history;
            part = λ leads. greeted_part sent taken history (connection_of index new).waiting (connection_of index old).waiting
                (connection_of at given).limit waits_is
                (midway.idle (sym alike.leads ∙ sym leads_is ∙ leads) (free same)) mid.history;
            idle = λ leads untied. let (place, there) = tie same in absurd (untied place there);
            gone = λ off. mid.gone (sym leads_is ∙ off);
          }
      | inr not ↦ midway_alike places index subscriber sent taken given new (record {
        left = record { sending = refl; history = refl; loans = refl; sequence = refl };
        leads = other_leads index at subscriber given new
            (get_or-set_other given.sender.uses.connections at index (welcomed history (connection_of at given)) nobody not) refl;
        waits = ap (λ one. one.waiting) (get_or-set_other given.sender.uses.connections at index
            (welcomed history (connection_of at given)) nobody not);
        ties = λ place there. there;
      }) mid
    ]

-- a place is tied to the connection of the subscriber that it lists
ties_mid : {T U : Type 0} (next : ℕ) (places : List (Option (Member SubscriberEntry))) (index subscriber : ℕ)
    (sent taken : List (Message T U)) (place : ℕ) (member : Member SubscriberEntry) (old new : PublisherPort T U)
    (outcome : Result (Unit {0}) AllocError)
    → get_or places place None ≡ Some member → IsTiedWell next places old → get_or old.ties.items place None ≡ None
    → Ties place member.value old outcome new → Midway places index subscriber sent taken old
    → Midway places index subscriber sent taken new × Left old new
ties_mid next places index subscriber sent taken place member old new (Err error) listed well untied ties midway =
    (midway_alike places index subscriber sent taken old new (alike_is index subscriber old new ties.1) midway, left_is old new ties.1)
ties_mid {T} {U} next places index subscriber sent taken place member old new (Ok done) listed well untied ties midway =
    let (at, joined, joins, is) = ties in
    let to : TiedTo place member.value.subscriber at old new
    = tied_joined next places place at _ member (connection_to member.value.subscriber old) old joined new well listed refl joins is
    untied in
    let between : Midway places index subscriber sent taken joined
    × Left old joined = joined_mid places index subscriber sent taken place at _ member (connection_to member.value.subscriber old)
    old joined listed joins midway in
    let ties_are : joined.ties ≡ (within_reach place old).ties
    = joined_ties place at _ member.value.subscriber (connection_to member.value.subscriber old) old joined joins in
    let given : PublisherPort T U = record joined { ties = tie_put place (Some at) joined.ties } in
    let free : index ≡ at → (other : ℕ) → get_or joined.ties.items other None ≢ Some index = λ same other there.
    let was : get_or old.ties.items other None ≡ Some index
    = sym (still_there old.ties.items (place + 1 - length old.ties.items) other) ∙ ap (λ ties. get_or ties.items other None)
    (sym ties_are) ∙ there in
    elim (cases_eq other place) [
      | inl here ↦ let no : None ≡ Some index = sym untied ∙ ap (λ n. get_or old.ties.items n None) (sym here) ∙ was in cc
      | inr apart ↦ to.free other apart (was ∙ ap (λ n. Some n) same)
    ] in
    let put_there : index ≡ at → (other : ℕ) × (get_or given.ties.items other None ≡ Some index) = λ same. (
      place,
      ap (λ ties. get_or (set ties.items place (Some at)) place None) ties_are
          ∙ get_or-set_same (reached (place + 1) old.ties.items) place (Some at) None
          (omega (arith, long_enough old.ties.items (place + 1))) ∙ ap (λ n. Some n) (sym same),
    ) in
    let kept : (other : ℕ) → get_or joined.ties.items other None ≡ Some index
    → get_or given.ties.items other None ≡ Some index = λ other there.
    elim (cases_eq other place) [
      | inl here ↦
          let was : get_or old.ties.items place None ≡ Some index
          = sym (still_there old.ties.items (place + 1 - length old.ties.items) place) ∙ ap (λ ties. get_or ties.items place None)
          (sym ties_are)
          ∙ ap (λ n. get_or joined.ties.items n None) (sym here) ∙ there in
          let no : None ≡ Some index = sym untied ∙ was in cc
      | inr apart ↦ get_or-set_other joined.ties.items place other (Some at) None apart ∙ there
    ] in
    let alike : Alike index subscriber joined given
    = record { left = record { sending = refl; history = refl; loans = refl; sequence = refl }; leads = refl; waits = refl; ties = kept } in
    let greeted : Midway places index subscriber sent taken (tied place at joined) =
    greeted_mid places index subscriber sent taken at (is_live at given) (connection_of at given).waiting joined given refl refl alike
    free put_there between.0 in (
      midway_alike places index subscriber sent taken (tied place at joined) new
          (alike_is index subscriber (tied place at joined) new is) greeted,
      left_on old joined new between.1 (left_on joined (tied place at joined) new
          (greeted_left at (is_live at given) (connection_of at given).waiting joined given
          (record { sending = refl; history = refl; loans = refl; sequence = refl })) (left_is (tied place at joined) new is)),
    )

-- a place is followed
follows_to_mid : {T U : Type 0} (next : ℕ) (places : List (Option (Member SubscriberEntry))) (index subscriber : ℕ)
    (sent taken : List (Message T U)) (place : ℕ) (member : Member SubscriberEntry) (is_tie : Bool) (old new : PublisherPort T U)
    (outcome : Result (Unit {0}) AllocError)
    → get_or places place None ≡ Some member → is_tie_to member.value.subscriber (get_or old.ties.items place None) old ≡ is_tie
    → IsTiedWell next places old → FollowsTo place member.value is_tie old outcome new → Midway places index subscriber sent taken old
    → Midway places index subscriber sent taken new × Left old new
follows_to_mid next places index subscriber sent taken place member true old new outcome listed is_tied well follows midway = (
  midway_alike places index subscriber sent taken old new (alike_is index subscriber old new follows.1) midway,
  left_is old new
      follows.1,
)
follows_to_mid {T} {U} next places index subscriber sent taken place member false old new outcome listed is_tied well follows midway =
    let gone : Midway places index subscriber sent taken (untied place old)
    = untied_mid next places index subscriber sent taken place old well
    (λ at other tie is_listed.
    let same : member ≡ other = one_member member other (get_or places place None) listed is_listed in
    ap (λ m. leads_to m.value.subscriber (get_or old.readers at None)) (sym same) ∙ ap (λ t. is_tie_to member.value.subscriber t old)
    (sym tie) ∙ is_tied) midway in
    let made = ties_mid next places index subscriber sent taken place member (untied place old) new outcome listed
    ((steps_untied next places place old).well well) (untied_none place (get_or old.ties.items place None) old refl) follows gone in
    (made.0, left_on old (untied place old) new (untied_left place (get_or old.ties.items place None) old) made.1)

follows_mid : {T U : Type 0} (next : ℕ) (places : List (Option (Member SubscriberEntry))) (index subscriber : ℕ)
    (sent taken : List (Message T U)) (place : ℕ) (item : Option (Member SubscriberEntry)) (old new : PublisherPort T U)
    (outcome : Result (Unit {0}) AllocError)
    → get_or places place None ≡ item → IsTiedWell next places old → Follows place item old outcome new
    → Midway places index subscriber sent taken old → Midway places index subscriber sent taken new × Left old new
follows_mid next places index subscriber sent taken place None old new outcome listed well follows midway = (
  midway_alike places index subscriber sent taken (untied place old) new (alike_is index subscriber (untied place old) new follows.1)
      (untied_mid next places index subscriber sent taken place old well
      (λ at member tie is_listed. let no : None ≡ Some member = sym listed ∙ is_listed in cc) midway),
  left_on old (untied place old) new (untied_left place (get_or old.ties.items place None) old) (left_is (untied place old) new follows.1),
)
follows_mid next places index subscriber sent taken place (Some member) old new outcome listed well follows midway =
    follows_to_mid next places index subscriber sent taken place member
    (is_tie_to member.value.subscriber (get_or old.ties.items place None) old) old new outcome listed refl well follows midway

untied_from_mid : {T U : Type 0} (next : ℕ) (places : List (Option (Member SubscriberEntry))) (index subscriber : ℕ)
    (sent taken : List (Message T U)) (count place : ℕ) (port : PublisherPort T U)
    → ((at : ℕ) → place ≤ at → get_or places at None ≡ None) → IsTiedWell next places port
    → Midway places index subscriber sent taken port → Midway places index subscriber sent taken (untied_from count place port)
    × Left port (untied_from count place port)
untied_from_mid next places index subscriber sent taken zero place port none well midway = (midway, left_is port port refl)
untied_from_mid {T} {U} next places index subscriber sent taken (suc count) place port none well midway =
    let one = untied_mid next places index subscriber sent taken place port well
    (λ at member tie listed. let no : None ≡ Some member = sym (none place (omega arith)) ∙ listed in cc) midway in
    let more = untied_from_mid next places index subscriber sent taken count (place + 1) (untied place port)
    (λ at from. none at (omega (arith, from))) ((steps_untied next places place port).well well) one in
    (more.0, left_on port (untied place port) _ (untied_left place (get_or port.ties.items place None) port) more.1)

follows_all_mid : {T U : Type 0} (next : ℕ) (places : List (Option (Member SubscriberEntry))) (index subscriber : ℕ)
    (sent taken : List (Message T U)) (may : DegradationInfo → DegradationAction → Type 0) (first : ℕ)
    (listed : List (Option (Member SubscriberEntry)))
    (found : Option ConnectionFailure) (old new : PublisherPort T U) (answer : Result (Unit {0}) ConnectionFailure)
    → IsListApart next places → ((k : ℕ) → get_or places (first + k) None ≡ get_or listed k None) → IsTiedWell next places old
    → FollowsAll may first listed found old answer new → Midway places index subscriber sent taken old
    → Midway places index subscriber sent taken new × Left old new
follows_all_mid {T} {U} next places index subscriber sent taken may first [] found old new answer list same well follows midway =
    let count = length old.ties.items - first in
    let all = untied_from_mid next places index subscriber sent taken count first old
    (λ at from. ap (λ n. get_or places n None) (omega (arith, from)) ∙ same (at - first)) well midway in (
      midway_alike places index subscriber sent taken (untied_from count first old) new
          (alike_is index subscriber (untied_from count first old) new follows.1) all.0,
      left_on old (untied_from count first old) new all.1 (left_is (untied_from count first old) new follows.1),
    )
follows_all_mid {T} {U} next places index subscriber sent taken may first (item ∷ rest) found old new answer list same well follows midway =
    let (outcome, between, after, one, asks, further) = follows in
    let here : get_or places first None ≡ item = ap (λ n. get_or places n None) (omega arith) ∙ same zero in
    let step = follows_mid next places index subscriber sent taken first item old between outcome here well one midway in
    let more = follows_all_mid next places index subscriber sent taken may (first + 1) rest after between new answer list
    (λ k. ap (λ n. get_or places n None) (omega arith) ∙ same (suc k))
    (follows_well next places first item old between outcome list here well one).1 further step.0 in
    (more.0, left_on old between new step.1 more.1)

-- An update while no send is blocked.
pub record Updated {T U : Type 0} (index subscriber : ℕ) (sent taken : List (Message T U)) (old new : PublisherPort T U) : Type 0 where
  pub books : Books index subscriber sent taken new
  pub sending : new.sender.uses.sending ≡ None
  pub loans : new.sender.uses.loans ≡ old.sender.uses.loans
  pub sequence : new.last_sequence ≡ old.last_sequence

midway_of : {T U : Type 0} (places : List (Option (Member SubscriberEntry))) (index subscriber : ℕ) (sent taken : List (Message T U))
    (port : PublisherPort T U) → port.stands ≡ true → Books index subscriber sent taken port → Missing index subscriber sent taken port
    → Midway places index subscriber sent taken port
midway_of {T} {U} places index subscriber sent taken port stands books missing = record {
  history = books.history;
  part = books.part;
  idle = λ leads. books.idle leads stands;
  gone = λ off. none (missing off);
}
  where
    none : (taken ≡ []) ⊎ ((port.stands ≡ false) × IsPartOf taken sent) → (taken ≡ []) ⊎ IsUnlisted places subscriber
    none (inl is) = inl is
    none (inr left) = let no : true ≡ false = sym stands ∙ left.0 in absurd (cc)

updated_of : {T U : Type 0} (places : List (Option (Member SubscriberEntry))) (index subscriber : ℕ) (sent taken : List (Message T U))
    (old new : PublisherPort T U) → old.sender.uses.sending ≡ None → AreNumbered sent old.last_sequence → Left old new
    → Midway places index subscriber sent taken new → Updated index subscriber sent taken old new
updated_of places index subscriber sent taken old new silent numbered left midway =
    let none : new.sender.uses.sending ≡ None = left.sending ∙ silent in
    record {
      books = record {
        history = midway.history;
        numbered = subst (λ last. AreNumbered sent last) (sym left.sequence) numbered;
        last = λ message sending. let no : None ≡ Some message = sym none ∙ sending in cc;
        left = λ gone. none;
        part = midway.part;
        due = λ leads message before sending. let no : None ≡ Some message = sym none ∙ sending in cc;
        idle = λ leads stands. midway.idle leads;
      };
      sending = none;
      loans = left.loans;
      sequence = left.sequence;
    }

updated_if : {T U : Type 0} (next : ℕ) (places : List (Option (Member SubscriberEntry))) (index subscriber : ℕ)
    (sent taken : List (Message T U)) (seen : Bool) (may : DegradationInfo → DegradationAction → Type 0)
    (listed : List (Option (Member SubscriberEntry))) (changes : ℕ)
    (old new : PublisherPort T U) (answer : Result (Unit {0}) ConnectionFailure) → IsListApart next places
    → ((k : ℕ) → get_or places k None ≡ get_or listed k None) → IsTiedWell next places old
    → UpdatesIf seen may listed changes old answer new
    → Midway places index subscriber sent taken old → Midway places index subscriber sent taken new × Left old new
updated_if next places index subscriber sent taken true may listed changes old new answer list same well updates midway = (
  midway_alike places index subscriber sent taken old new (alike_is index subscriber old new updates.1) midway,
  left_is old new
      updates.1,
)
updated_if {T} {U} next places index subscriber sent taken false may listed changes old new answer list same well updates midway =
    let begun : PublisherPort T U = record old { seen = changes } in
    let mid : Midway places index subscriber sent taken begun
    = record { history = midway.history; part = midway.part; idle = midway.idle; gone = midway.gone } in
    let begun_well : IsTiedWell next places begun = well_alike next places old begun (alike_still old begun refl refl refl refl) well in
    let all = follows_all_mid next places index subscriber sent taken may 0 listed None begun new answer list
    (λ k. ap (λ n. get_or places n None) (omega arith) ∙ same k) begun_well updates mid in
    (all.0, left_on old begun new (record { sending = refl; history = refl; loans = refl; sequence = refl }) all.1)

pub updates_books : {T U : Type 0} (next : ℕ) (places : List (Option (Member SubscriberEntry))) (index subscriber : ℕ)
    (sent taken : List (Message T U)) (may : DegradationInfo → DegradationAction → Type 0)
    (listed : List (Option (Member SubscriberEntry))) (changes : ℕ)
    (old new : PublisherPort T U) (answer : Result (Unit {0}) ConnectionFailure) → IsListApart next places
    → ((k : ℕ) → get_or places k None ≡ get_or listed k None) → IsTiedWell next places old → old.stands ≡ true
    → old.sender.uses.sending ≡ None
    → Updates may listed changes old answer new → Books index subscriber sent taken old → Missing index subscriber sent taken old
    → Updated index subscriber sent taken old new
updates_books next places index subscriber sent taken may listed changes old new answer list same well stands silent updates books missing =
    let all = updated_if next places index subscriber sent taken (old.seen == changes) may listed changes old new answer list same well
    updates (midway_of places index subscriber sent taken old stands books missing) in
    updated_of places index subscriber sent taken old new silent books.numbered all.1 all.0
