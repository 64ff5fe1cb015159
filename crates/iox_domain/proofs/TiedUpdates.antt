-- A place is tied, a list is followed, and a subscriber attaches: the ties of a publisher stay apart.
use Rattle.std.proofs.Common.{arith, ◌≡◌, ◌≢◌, ◌+◌, ◌-◌, ◌<◌, ◌≤◌, ◌==◌, ◌∷◌, [], ◌++◌, ℕ, zero, suc, Bool, true, false, List, get_or}
use Rattle.std.proofs.Common.{set, length, Option, None, Some, Result, Ok, Err, refl, sym, ap, ◌∙◌}
use Rattle.std.proofs.Common.{if◌then◌else◌, cond, inl, inr, is_some, nat_lt}
use Rattle.std.proofs.lemmas.Bool.{cases_eq, cases_lt, eqb-true, eq-eqb}
use Rattle.std.proofs.lemmas.List.{get_or-set_other, get_or-set_same, get_or_past, get_or_push}
use Rattle.std.proofs.lemmas.List.Quantifiers.{position-Some}
use Rattle.std.proofs.lemmas.List.Sums.{fails_before_first}
use Rattle.std.specs.List.{position, position_or_len}
use Rattle.std.specs.declared.alloc.AllocError.{AllocError}
use Rattle.iox_domain.specs.Container.declared.container.Member.{Member}
use Rattle.iox_domain.specs.DomainValues.declared.connection_failure.ConnectionFailure.{ConnectionFailure}
use Rattle.iox_domain.specs.DomainValues.declared.degradation.DegradationAction.{DegradationAction}
use Rattle.iox_domain.specs.DomainValues.declared.degradation.DegradationInfo.{DegradationInfo}
use Rattle.iox_domain.specs.DomainSlots.Uses.{Connection, nobody, connected, welcomed}
use Rattle.iox_domain.specs.DomainPorts.Messages.{Message}
use Rattle.iox_domain.specs.DomainPorts.Places.{is_attached, reached, leads_to}
use Rattle.iox_domain.specs.DomainPorts.Ports.{connection_of, connection_to, goes_on, is_live, greeted_at, Connects}
use Rattle.iox_domain.specs.DomainPorts.Ports.{Joins, Attaches, attached_at}
use Rattle.iox_domain.specs.DomainPorts.Ties.{tie_put}
use Rattle.iox_domain.specs.DomainPorts.PublisherUpdating.{is_tie_to, let_go_of, untied, within_reach, tied, Ties, Follows}
use Rattle.iox_domain.specs.DomainPorts.PublisherUpdating.{FollowsTo, FollowsAll, UpdatesIf, Updates}
use Rattle.iox_domain.specs.DomainPorts.declared.publisher_port.PublisherPort.{PublisherPort}
use Rattle.iox_domain.specs.DomainPorts.declared.reader.Reader.{Reader}
use Rattle.iox_domain.specs.DomainPorts.declared.subscriber_entry.SubscriberEntry.{SubscriberEntry}
use Rattle.iox_domain.specs.PortLawsLaws.{IsKnown, IsListApart, IsTiedWell, LeadApart, AllLead}
use Rattle.iox_domain.proofs.Numbered.{bool_false}
use Rattle.iox_domain.proofs.TiedWell.{Alike, Kept, alike_is, alike_on, alike_still, alike_waiting, gone_there, known_still, leads_both}
use Rattle.iox_domain.proofs.TiedWell.{long_enough, sole_still, steps_alike, steps_is, steps_to, steps_untied, steps_untied_from}
use Rattle.iox_domain.proofs.TiedWell.{still_there, tie_kept, well_kept}

-- What is true of a publisher after a place is tied to the connection of its subscriber.
pub record TiedTo {T U : Type 0} (place subscriber index : ℕ) (old new : PublisherPort T U) : Type 0 where
  here : get_or new.ties.items place None ≡ Some index
  others : (other : ℕ) → other ≢ place → get_or new.ties.items other None ≡ get_or old.ties.items other None
  room : new.ties.room ≡ old.ties.room
  stands : new.stands ≡ old.stands
  live : (at : ℕ) → is_live at old ≡ true → is_live at new ≡ true
  leads : (one at : ℕ) → is_live at old ≡ true → leads_to one (get_or new.readers at None) ≡ leads_to one (get_or old.readers at None)
  goes : is_live index new ≡ true
  leads_there : leads_to subscriber (get_or new.readers index None) ≡ true
  read : (one at : ℕ) → leads_to one (get_or new.readers at None) ≡ true → is_live at new ≡ true
  pub free : (other : ℕ) → other ≢ place → get_or old.ties.items other None ≡ Some index → ⊥
  known : (at : ℕ) → at ≢ index → is_live at new ≡ true
      → (is_live at old ≡ true) × (is_attached (get_or new.readers at None) ≡ is_attached (get_or old.readers at None))
  vacant : get_or old.ties.items place None ≡ None
  sole : LeadApart old → LeadApart new
  all : AllLead old → AllLead new

well_tied : {T U : Type 0} (next : ℕ) (places : List (Option (Member SubscriberEntry))) (place index : ℕ)
    (member : Member SubscriberEntry) (old new : PublisherPort T U) → IsListApart next places → get_or places place None ≡ Some member
    → TiedTo place member.value.subscriber index old new → IsTiedWell next places old → IsTiedWell next places new
well_tied {T} {U} next places place index member old new list listed tied well = record {
  apart = apart;
  live = λ one at is. elim (cases_eq one place) [
    | inl same ↦ let is_index : index ≡ at = here_is one at same is in ap (λ i. is_live i new) (sym is_index) ∙ tied.goes
    | inr not ↦ tied.live at (well.live one at (sym (tied.others one not) ∙ is))
  ];
  read = tied.read;
  alone = λ one other second second_listed not. bool_false _ (λ is. elim (cases_eq other place) [
    | inl same ↦
        let leads : leads_to second.value.subscriber (get_or new.readers index None) ≡ true
        = sym (tie_here second.value.subscriber other same) ∙ is in
        not (same ∙ sym (list.apart one place second member second_listed listed
        (leads_both second.value.subscriber member.value.subscriber (get_or new.readers index None) leads tied.leads_there)))
    | inr apart_from ↦
        let no : false ≡ true = sym (tie_other second.value.subscriber other apart_from ∙ well.alone one other second second_listed not)
        ∙ is in cc
  ]);
  below = λ one subscriber is. elim (cases_eq one place) [
    | inl same ↦
        let leads : leads_to subscriber (get_or new.readers index None) ≡ true = sym (tie_here subscriber one same) ∙ is in
        let is_member : subscriber ≡ member.value.subscriber
        = leads_both subscriber member.value.subscriber (get_or new.readers index None) leads tied.leads_there in
        omega (arith, is_member, list.below place member listed)
    | inr not ↦ well.below one subscriber (sym (tie_other subscriber one not) ∙ is)
  ];
  room = omega (arith, well.room, tied.room);
  known = λ at live. elim (cases_eq at index) [
    | inl same ↦ inr (place, tied.here ∙ ap (λ i. Some i) (sym same))
    | inr not ↦ let was = tied.known at not live in known at was.1 (well.known at was.0)
  ];
  sole = tied.sole well.sole;
  all = tied.all well.all;
}
  where
    known : (at : ℕ) → is_attached (get_or new.readers at None) ≡ is_attached (get_or old.readers at None) → IsKnown at old
        → IsKnown at new
    known at same (inl reads) = inl (same ∙ reads)
    known at same (inr (one, there)) =
        let elsewhere : one ≢ place = λ here.
        let no : None ≡ Some at = sym tied.vacant ∙ ap (λ p. get_or old.ties.items p None) (sym here) ∙ there in cc in
        inr (one, tied.others one elsewhere ∙ there)

    here_is : (one at : ℕ) → one ≡ place → get_or new.ties.items one None ≡ Some at → index ≡ at
    here_is one at same is = let both : Some index ≡ Some at = sym tied.here ∙ ap (λ p. get_or new.ties.items p None) (sym same) ∙ is in cc

    apart : (one other at : ℕ) → get_or new.ties.items one None ≡ Some at → get_or new.ties.items other None ≡ Some at → one ≡ other
    apart one other at is_one is_other = elim (cases_eq one place) [
      | inl one_here ↦ elim (cases_eq other place) [
        | inl other_here ↦ one_here ∙ sym other_here
        | inr other_not ↦ absurd (tied.free other other_not
            (sym (tied.others other other_not) ∙ is_other ∙ ap (λ i. Some i) (sym (here_is one at one_here is_one))))
      ]
      | inr one_not ↦ elim (cases_eq other place) [
        | inl other_here ↦ absurd (tied.free one one_not
            (sym (tied.others one one_not) ∙ is_one ∙ ap (λ i. Some i) (sym (here_is other at other_here is_other))))
        | inr other_not ↦ well.apart one other at (sym (tied.others one one_not) ∙ is_one) (sym (tied.others other other_not) ∙ is_other)
      ]
    ]

    tie_here : (subscriber other : ℕ) → other ≡ place
        → is_tie_to subscriber (get_or new.ties.items other None) new ≡ leads_to subscriber (get_or new.readers index None)
    tie_here subscriber other same = ap (λ p. is_tie_to subscriber (get_or new.ties.items p None) new) same ∙ ap
        (λ t. is_tie_to subscriber t new) tied.here

    tie_other : (subscriber other : ℕ) → other ≢ place
        → is_tie_to subscriber (get_or new.ties.items other None) new ≡ is_tie_to subscriber (get_or old.ties.items other None) old
    tie_other subscriber other not =
        ap (λ t. is_tie_to subscriber t new) (tied.others other not)
        ∙ tie_kept old new subscriber (get_or old.ties.items other None) (λ at is. tied.leads subscriber at (well.live other at is))

-- greeting a connection is no matter to ties
greeted_alike : {T U : Type 0} (index : ℕ) (live : Bool) (waiting : List (Message T U)) (port : PublisherPort T U)
    → Alike port (if live then greeted_at index waiting port else port)
greeted_alike index false waiting port = alike_is port port refl
greeted_alike index true [] port = alike_waiting index (welcomed port.sender.uses.history (connection_of index port)) port refl
greeted_alike index true (message ∷ waiting) port = alike_is port port refl

-- the connection that leads to a subscriber
pub found_leads : {T U : Type 0} (subscriber index : ℕ) (port : PublisherPort T U) → connection_to subscriber port ≡ Some index
    → leads_to subscriber (get_or port.readers index None) ≡ true
found_leads subscriber index port is = (position-Some (leads_to subscriber) port.readers index None is).1

-- what comes of placing a connection
append_other : {T U : Type 0} (connections : List (Connection (Message T U))) (connection : Connection (Message T U)) (at : ℕ)
    → at ≢ length connections → get_or (connections ++ connection ∷ []) at nobody ≡ get_or connections at nobody
append_other [] connection zero not = absurd (not refl)
append_other [] connection (suc at) not = refl
append_other (x ∷ xs) connection zero not = refl
append_other (x ∷ xs) connection (suc at) not = append_other xs connection at (λ same. not (ap (λ n. suc n) same))

placed_here : {T U : Type 0} (behind : Bool) (connections : List (Connection (Message T U))) (index : ℕ)
    (connection : Connection (Message T U)) → (index == length connections) ≡ behind → index ≤ length connections
    → get_or (if behind then connections ++ connection ∷ [] else set connections index connection) index nobody ≡ connection
placed_here true connections index connection is within
    = get_or_push connections connection nobody index (sym (eqb-true index (length connections) is))
placed_here false connections index connection is within = elim (cases_eq index (length connections)) [
  | inl same ↦ let no : true ≡ false = sym (eq-eqb index (length connections) same) ∙ is in absurd (cc)
  | inr not ↦ get_or-set_same connections index connection nobody (omega (arith, within, not))
]

placed_other : {T U : Type 0} (behind : Bool) (connections : List (Connection (Message T U))) (index at : ℕ)
    (connection : Connection (Message T U)) → (index == length connections) ≡ behind → at ≢ index
    → get_or (if behind then connections ++ connection ∷ [] else set connections index connection) at nobody ≡ get_or connections at nobody
placed_other true connections index at connection is not
    = append_other connections connection at (λ same. not (same ∙ sym (eqb-true index (length connections) is)))
placed_other false connections index at connection is not = get_or-set_other connections index at connection nobody not

-- What is true of a publisher after a connection is made at a free index.
pub record MadeAt {T U : Type 0} (subscriber index : ℕ) (old new : PublisherPort T U) : Type 0 where
  pub ties : new.ties ≡ old.ties
  pub stands : new.stands ≡ old.stands
  pub none : is_live index old ≡ false
  pub live : (at : ℕ) → at ≢ index → is_live at new ≡ is_live at old
  pub goes : is_live index new ≡ true
  pub readers : (at : ℕ) → at ≢ index → get_or new.readers at None ≡ get_or old.readers at None
  pub leads_there : leads_to subscriber (get_or new.readers index None) ≡ true
  pub waits : (connection_of index new).waiting ≡ []
  pub others : (at : ℕ) → at ≢ index → connection_of at new ≡ connection_of at old

pub connects_made : {T U : Type 0} (subscriber limit index : ℕ) (attached : Bool) (old new : PublisherPort T U)
    → Connects limit (record { subscriber = subscriber; attached = attached }) old (Ok index) new → MadeAt subscriber index old new
connects_made {T} {U} subscriber limit index attached old new connects =
    let reader : Reader = record { subscriber = subscriber; attached = attached } in
    let count = length old.sender.uses.connections + 1 in
    let (none, within, is) = connects in
    let readers : new.readers ≡ set (reached count old.readers) index (Some reader) = ap (λ port. port.readers) is in
    let there : get_or new.readers index None ≡ Some reader =
    ap (λ all. get_or all index None) readers ∙ get_or-set_same (reached count old.readers) index (Some reader) None
    (omega (arith, within, long_enough old.readers count)) in
    record {
      ties = ap (λ port. port.ties) is;
      stands = ap (λ port. port.stands) is;
      none = ap (λ one. goes_on one.stage) none;
      live = λ at not. ap (λ port. is_live at port) is
          ∙ ap (λ one. goes_on one.stage) (placed_other (index == length old.sender.uses.connections) old.sender.uses.connections index
          at (connected limit) refl not);
      goes = ap (λ port. is_live index port) is ∙ ap (λ one. goes_on one.stage)
          (placed_here (index == length old.sender.uses.connections) old.sender.uses.connections index (connected limit) refl within);
      readers = λ at not. ap (λ all. get_or all at None) readers ∙ get_or-set_other (reached count old.readers) index at (Some reader)
          None not
          ∙ still_there old.readers (count - length old.readers) at;
      leads_there = ap (λ one. leads_to subscriber one) there ∙ eq-eqb subscriber subscriber refl;
      waits = ap (λ port. (connection_of index port).waiting) is ∙ ap (λ one. one.waiting)
          (placed_here (index == length old.sender.uses.connections) old.sender.uses.connections index (connected limit) refl within);
      others = λ at not. ap (λ port. connection_of at port) is ∙ placed_other (index == length old.sender.uses.connections)
          old.sender.uses.connections index at (connected limit) refl not;
    }

-- where none leads to a subscriber none is found, and the other way round
none_leads : (subscriber : ℕ) (readers : List (Option Reader)) (index : ℕ) → position (leads_to subscriber) readers ≡ None
    → leads_to subscriber (get_or readers index None) ≡ true → ⊥
none_leads subscriber readers index none leads =
    let past : length readers ≤ position_or_len (leads_to subscriber) readers
    = past_of (position_or_len (leads_to subscriber) readers) (length readers) none in
    elim (cases_lt index (length readers)) [
      | inl within ↦
          let no : false ≡ true = sym (fails_before_first (leads_to subscriber) readers index None (omega (arith, within, past))) ∙ leads
          in cc
      | inr over ↦ let no : false ≡ true = sym (ap (λ r. leads_to subscriber r) (get_or_past readers index None over)) ∙ leads in cc
    ]
  where
    past_by : (below : Bool) (at count : ℕ) → nat_lt at count ≡ below → cond below (Some at) None ≡ None → count ≤ at
    past_by true at count is none = absurd (cc)
    past_by false at count is none = grind (arith, is)

    past_of : (at count : ℕ) → cond (nat_lt at count) (Some at) None ≡ None → count ≤ at
    past_of at count none = past_by (nat_lt at count) at count refl none

-- a connection that is made for a subscriber to whom none leads
made_sole : {T U : Type 0} (subscriber index : ℕ) (old new : PublisherPort T U) → MadeAt subscriber index old new
    → connection_to subscriber old ≡ None → LeadApart old → LeadApart new
made_sole {T} {U} subscriber index old new made none sole one at other first second = elim (cases_eq at index) [
  | inl at_here ↦ elim (cases_eq other index) [
    | inl other_here ↦ at_here ∙ sym other_here
    | inr other_not ↦
        let same : one ≡ subscriber = leads_both one subscriber (get_or new.readers index None)
        (ap (λ i. leads_to one (get_or new.readers i None)) (sym at_here) ∙ first) made.leads_there in
        absurd (none_leads subscriber old.readers other none
        (ap (λ r. leads_to subscriber r) (sym (made.readers other other_not))
        ∙ ap (λ n. leads_to n (get_or new.readers other None)) (sym same) ∙ second))
  ]
  | inr at_not ↦ elim (cases_eq other index) [
    | inl other_here ↦
        let same : one ≡ subscriber = leads_both one subscriber (get_or new.readers index None)
        (ap (λ i. leads_to one (get_or new.readers i None)) (sym other_here) ∙ second) made.leads_there in
        absurd (none_leads subscriber old.readers at none
        (ap (λ r. leads_to subscriber r) (sym (made.readers at at_not))
        ∙ ap (λ n. leads_to n (get_or new.readers at None)) (sym same) ∙ first))
    | inr other_not ↦ sole one at other
        (ap (λ r. leads_to one r) (sym (made.readers at at_not)) ∙ first)
        (ap (λ r. leads_to one r) (sym (made.readers other other_not)) ∙ second)
  ]
]

some_leads : (subscriber : ℕ) (found : Option Reader) → leads_to subscriber found ≡ true → is_some found ≡ true
some_leads subscriber None leads = cc
some_leads subscriber (Some reader) leads = refl

made_all : {T U : Type 0} (subscriber index : ℕ) (old new : PublisherPort T U) → MadeAt subscriber index old new → AllLead old → AllLead new
made_all subscriber index old new made all at live = elim (cases_eq at index) [
  | inl here ↦ ap (λ i. is_some (get_or new.readers i None)) here
      ∙ some_leads subscriber (get_or new.readers index None) made.leads_there
  | inr not ↦ ap (λ one. is_some one) (made.readers at not) ∙ all at (sym (made.live at not) ∙ live)
]

pub ok_same : (one other : ℕ) (answer : Result ℕ AllocError) → answer ≡ Ok one → answer ≡ Ok other → other ≡ one
ok_same one other answer first second = cc

-- a place is tied to the connection of the subscriber that it lists
pub tied_joined : {T U : Type 0} (next : ℕ) (places : List (Option (Member SubscriberEntry))) (place index limit : ℕ)
    (member : Member SubscriberEntry) (found : Option ℕ) (old joined new : PublisherPort T U)
    → IsTiedWell next places old → get_or places place None ≡ Some member → connection_to member.value.subscriber old ≡ found
    → Joins member.value.subscriber limit found (within_reach place old) (Ok index) joined → new ≡ tied place index joined
    → get_or old.ties.items place None ≡ None → TiedTo place member.value.subscriber index old new
tied_joined {T} {U} next places place index limit member found old joined new well listed is_found joins is vacant
    = elim found as (λ found. connection_to member.value.subscriber old ≡ found
    → Joins member.value.subscriber limit found (within_reach place old) (Ok index) joined
    → TiedTo place member.value.subscriber index old new) [
      | Some there ↦ λ is_there joined_is.
          let same : there ≡ index = ok_same index there (Ok index) refl joined_is.0 in
          let leads : leads_to member.value.subscriber (get_or old.readers index None) ≡ true
          = found_leads member.value.subscriber index old (is_there ∙ ap (λ i. Some i) same) in
          finish (ap (λ port. port.ties) joined_is.1) (ap (λ port. port.stands) joined_is.1)
          (λ at live. ap (λ port. is_live at port) joined_is.1 ∙ live)
          (λ one at live. ap (λ port. leads_to one (get_or port.readers at None)) joined_is.1)
          (ap (λ port. is_live index port) joined_is.1 ∙ well.read member.value.subscriber index leads)
          (ap (λ port. leads_to member.value.subscriber (get_or port.readers index None)) joined_is.1 ∙ leads)
          (λ one at lead. ap (λ port. is_live at port) joined_is.1 ∙ well.read one at
          (ap (λ port. leads_to one (get_or port.readers at None)) (sym joined_is.1) ∙ lead))
          (λ other not tie. let no : true ≡ false
          = sym leads ∙ ap (λ t. is_tie_to member.value.subscriber t old) (sym tie) ∙ well.alone place other member listed not in cc)
          (λ at not live. (
            sym (ap (λ port. is_live at port) joined_is.1) ∙ live,
            ap (λ port. is_attached (get_or port.readers at None)) joined_is.1,
          ))
          (λ sole. sole_still old joined (λ subscriber at. ap (λ port. leads_to subscriber (get_or port.readers at None)) joined_is.1) sole)
          (λ all at live. ap (λ port. is_some (get_or port.readers at None)) joined_is.1
          ∙ all at (sym (ap (λ port. is_live at port) joined_is.1) ∙ live))
      | None ↦ λ is_none made_is.
          let made : MadeAt member.value.subscriber index (within_reach place old) joined
          = connects_made member.value.subscriber limit index false (within_reach place old) joined made_is in
          let apart : (at : ℕ) → is_live at old ≡ true
          → at ≢ index = λ at live same. let no : true ≡ false = sym live ∙ ap (λ i. is_live i old) same ∙ made.none in cc in
          finish made.ties made.stands
          (λ at live. made.live at (apart at live) ∙ live)
          (λ one at live. ap (λ reader. leads_to one reader) (made.readers at (apart at live)))
          made.goes made.leads_there
          (λ one at lead. elim (cases_eq at index) [
            | inl same ↦ ap (λ i. is_live i joined) same ∙ made.goes
            | inr not ↦ made.live at not ∙ well.read one at (ap (λ reader. leads_to one reader) (sym (made.readers at not)) ∙ lead)
          ])
          (λ other not tie. let no : true ≡ false = sym (well.live other index tie) ∙ made.none in cc)
          (λ at not live. (sym (made.live at not) ∙ live, ap is_attached (made.readers at not)))
          (λ sole. made_sole member.value.subscriber index (within_reach place old) joined made is_none sole)
          (λ all. made_all member.value.subscriber index (within_reach place old) joined made all)
    ] is_found joins
  where
    finish : joined.ties ≡ (within_reach place old).ties → joined.stands ≡ old.stands
        → ((at : ℕ) → is_live at old ≡ true → is_live at joined ≡ true)
        → ((one at : ℕ) → is_live at old ≡ true
        → leads_to one (get_or joined.readers at None) ≡ leads_to one (get_or old.readers at None)) → is_live index joined ≡ true
        → leads_to member.value.subscriber (get_or joined.readers index None) ≡ true
        → ((one at : ℕ) → leads_to one (get_or joined.readers at None) ≡ true → is_live at joined ≡ true)
        → ((other : ℕ) → other ≢ place → get_or old.ties.items other None ≡ Some index → ⊥)
        → ((at : ℕ) → at ≢ index → is_live at joined ≡ true
        → (is_live at old ≡ true) × (is_attached (get_or joined.readers at None) ≡ is_attached (get_or old.readers at None)))
        → (LeadApart old → LeadApart joined) → (AllLead old → AllLead joined)
        → TiedTo place member.value.subscriber index old new
    finish ties stands live leads goes leads_there read free known sole all =
        let given : PublisherPort T U = record joined { ties = tie_put place (Some index) joined.ties } in
        let alike : Alike given new = alike_on given (tied place index joined) new
        (greeted_alike index (is_live index given) (connection_of index given).waiting given)
        (alike_is (tied place index joined) new is) in
        let items : new.ties.items ≡ set (reached (place + 1) old.ties.items) place (Some index)
        = ap (λ ties. ties.items) alike.ties ∙ ap (λ all. set all.items place (Some index)) ties in
        record {
          here = ap (λ all. get_or all place None) items ∙ get_or-set_same (reached (place + 1) old.ties.items) place (Some index) None
              (omega (arith, long_enough old.ties.items (place + 1)));
          others = λ other not. ap (λ all. get_or all other None) items ∙ get_or-set_other (reached (place + 1) old.ties.items) place
              other (Some index) None not
              ∙ still_there old.ties.items (place + 1 - length old.ties.items) other;
          room = ap (λ all. all.room) alike.ties ∙ ap (λ all. all.room) ties;
          stands = alike.stands ∙ stands;
          live = λ at was. alike.live at ∙ live at was;
          leads = λ one at was. ap (λ readers. leads_to one (get_or readers at None)) alike.readers ∙ leads one at was;
          goes = alike.live index ∙ goes;
          leads_there = ap (λ readers. leads_to member.value.subscriber (get_or readers index None)) alike.readers ∙ leads_there;
          read = λ one at lead. alike.live at ∙ read one at
              (ap (λ readers. leads_to one (get_or readers at None)) (sym alike.readers) ∙ lead);
          free = free;
          known = λ at not is_on.
              let was = known at not (sym (alike.live at) ∙ is_on) in
              (was.0, ap (λ readers. is_attached (get_or readers at None)) alike.readers ∙ was.1);
          vacant = vacant;
          sole = λ before. sole_still joined new
              (λ subscriber at. ap (λ readers. leads_to subscriber (get_or readers at None)) alike.readers) (sole before);
          all = λ before at is_on. ap (λ readers. is_some (get_or readers at None)) alike.readers
              ∙ all before at (sym (alike.live at) ∙ is_on);
        }

steps_ties : {T U : Type 0} (next : ℕ) (places : List (Option (Member SubscriberEntry))) (place : ℕ) (member : Member SubscriberEntry)
    (old new : PublisherPort T U) (outcome : Result (Unit {0}) AllocError) → IsListApart next places
    → get_or places place None ≡ Some member → IsTiedWell next places old → get_or old.ties.items place None ≡ None
    → Ties place member.value old outcome new → (new.stands ≡ old.stands) × IsTiedWell next places new
steps_ties next places place member old new (Err error) list listed well vacant ties =
    let steps = steps_is next places old new ties.1 in
    (steps.stands, steps.well well)
steps_ties {T} {U} next places place member old new (Ok done) list listed well vacant ties =
    let (index, joined, joins, is) = ties in
    let to = tied_joined next places place index _ member (connection_to member.value.subscriber old) old joined new well listed refl
    joins is vacant in
    (to.stands, well_tied next places place index member old new list listed to well)

-- a place that is untied is tied to none
either_vacant : {T U : Type 0} (live : Bool) (place : ℕ) (one other : PublisherPort T U) → get_or one.ties.items place None ≡ None
    → get_or other.ties.items place None ≡ None → get_or (if live then one else other).ties.items place None ≡ None
either_vacant true place one other first second = first
either_vacant false place one other first second = second

let_go_vacant : {T U : Type 0} (place : ℕ) (tie : Option ℕ) (port : PublisherPort T U) → get_or port.ties.items place None ≡ tie
    → get_or (let_go_of place tie port).ties.items place None ≡ None
let_go_vacant place None port is = is
let_go_vacant {T} {U} place (Some index) port is =
    let gone : PublisherPort T U = record port { ties = tie_put place None port.ties } in
    either_vacant (is_live index gone) place _ gone (gone_there port.ties.items place) (gone_there port.ties.items place)

untied_vacant : {T U : Type 0} (place : ℕ) (port : PublisherPort T U) → get_or (untied place port).ties.items place None ≡ None
untied_vacant place port = let_go_vacant place (get_or port.ties.items place None) port refl

-- a place is followed
follows_to_well : {T U : Type 0} (next : ℕ) (places : List (Option (Member SubscriberEntry))) (place : ℕ)
    (member : Member SubscriberEntry) (is_tie : Bool) (old new : PublisherPort T U) (outcome : Result (Unit {0}) AllocError)
    → IsListApart next places
    → get_or places place None ≡ Some member → IsTiedWell next places old → FollowsTo place member.value is_tie old outcome new
    → (new.stands ≡ old.stands) × IsTiedWell next places new
follows_to_well next places place member true old new outcome list listed well follows =
    let steps = steps_is next places old new follows.1 in
    (steps.stands, steps.well well)
follows_to_well next places place member false old new outcome list listed well follows =
    let one = steps_untied next places place old in
    let two = steps_ties next places place member (untied place old) new outcome list listed (one.well well) (untied_vacant place old)
    follows in
    (two.0 ∙ one.stands, two.1)

pub follows_well : {T U : Type 0} (next : ℕ) (places : List (Option (Member SubscriberEntry))) (place : ℕ)
    (item : Option (Member SubscriberEntry)) (old new : PublisherPort T U) (outcome : Result (Unit {0}) AllocError)
    → IsListApart next places
    → get_or places place None ≡ item → IsTiedWell next places old → Follows place item old outcome new → (new.stands ≡ old.stands)
    × IsTiedWell next places new
follows_well next places place None old new outcome list listed well follows =
    let steps = steps_to next places old (untied place old) new follows.1 (steps_untied next places place old) in
    (steps.stands, steps.well well)
follows_well next places place (Some member) old new outcome list listed well follows =
    follows_to_well next places place member (is_tie_to member.value.subscriber (get_or old.ties.items place None) old) old new outcome
    list listed well follows

follows_all_well : {T U : Type 0} (next : ℕ) (places : List (Option (Member SubscriberEntry)))
    (may : DegradationInfo → DegradationAction → Type 0) (first : ℕ) (listed : List (Option (Member SubscriberEntry)))
    (found : Option ConnectionFailure)
    (old new : PublisherPort T U) (answer : Result (Unit {0}) ConnectionFailure) → IsListApart next places
    → ((k : ℕ) → k < length listed → get_or places (first + k) None ≡ get_or listed k None) → IsTiedWell next places old
    → FollowsAll may first listed found old answer new → (new.stands ≡ old.stands) × IsTiedWell next places new
follows_all_well next places may first [] found old new answer list same well follows =
    let steps = steps_to next places old _ new follows.1 (steps_untied_from next places (length old.ties.items - first) first old) in
    (steps.stands, steps.well well)
follows_all_well {T} {U} next places may first (item ∷ rest) found old new answer list same well follows =
    let (outcome, between, after, one, asks, further) = follows in
    let here : get_or places first None ≡ item = ap (λ n. get_or places n None) (omega arith) ∙ same zero (omega arith) in
    let step = follows_well next places first item old between outcome list here well one in
    let more = follows_all_well next places may (first + 1) rest after between new answer list
    (λ k within. ap (λ n. get_or places n None) (omega arith) ∙ same (suc k) (omega (arith, within))) step.1 further in
    (more.0 ∙ step.0, more.1)

updates_well_by : {T U : Type 0} (next : ℕ) (places : List (Option (Member SubscriberEntry))) (seen : Bool)
    (may : DegradationInfo → DegradationAction → Type 0) (listed : List (Option (Member SubscriberEntry))) (changes : ℕ)
    (old new : PublisherPort T U) (answer : Result (Unit {0}) ConnectionFailure) → IsListApart next places
    → ((k : ℕ) → k < length listed → get_or places k None ≡ get_or listed k None) → IsTiedWell next places old
    → UpdatesIf seen may listed changes old answer new → (new.stands ≡ old.stands) × IsTiedWell next places new
updates_well_by next places true may listed changes old new answer list same well updates =
    let steps = steps_is next places old new updates.1 in
    (steps.stands, steps.well well)
updates_well_by {T} {U} next places false may listed changes old new answer list same well updates =
    let begun : PublisherPort T U = record old { seen = changes } in
    let first = steps_alike next places old begun (alike_still old begun refl refl refl refl) in
    let all = follows_all_well next places may 0 listed None begun new answer list
    (λ k within. ap (λ n. get_or places n None) (omega arith) ∙ same k within) (first.well well) updates in
    (all.0 ∙ first.stands, all.1)

-- an update
pub updates_well : {T U : Type 0} (next : ℕ) (places : List (Option (Member SubscriberEntry)))
    (may : DegradationInfo → DegradationAction → Type 0) (listed : List (Option (Member SubscriberEntry))) (changes : ℕ)
    (old new : PublisherPort T U) (answer : Result (Unit {0}) ConnectionFailure) → IsListApart next places
    → ((k : ℕ) → k < length listed → get_or places k None ≡ get_or listed k None) → IsTiedWell next places old
    → Updates may listed changes old answer new → (new.stands ≡ old.stands) × IsTiedWell next places new
updates_well next places may listed changes old new answer list same well updates
    = updates_well_by next places (old.seen == changes) may listed changes old new answer list same well updates

-- a subscriber attaches
attaches_kept : {T U : Type 0} (subscriber limit index : ℕ) (found : Option ℕ) (old joined new : PublisherPort T U)
    → ((one at : ℕ) → leads_to one (get_or old.readers at None) ≡ true → is_live at old ≡ true) → connection_to subscriber old ≡ found
    → Joins subscriber limit found old (Ok index) joined → new ≡ attached_at subscriber index joined → (new.stands ≡ old.stands)
    × Kept old new
attaches_kept {T} {U} subscriber limit index (Some there) old joined new read is_found joins is =
    let same : there ≡ index = ok_same index there (Ok index) refl joins.0 in
    let leads : leads_to subscriber (get_or old.readers index None) ≡ true
    = found_leads subscriber index old (is_found ∙ ap (λ i. Some i) same) in
    let reader : Reader = record { subscriber = subscriber; attached = true } in
    let readers : new.readers ≡ set old.readers index (Some reader)
    = ap (λ port. port.readers) is ∙ ap (λ port. set port.readers index (Some reader)) joins.1 in
    let live_same : (at : ℕ) → is_live at new ≡ is_live at old
    = λ at. ap (λ port. is_live at port) is ∙ ap (λ port. is_live at port) joins.1 in
    let within = (position-Some (leads_to subscriber) old.readers index None (is_found ∙ ap (λ i. Some i) same)).0 in
    let leads_same : (one at : ℕ) → leads_to one (get_or new.readers at None) ≡ leads_to one (get_or old.readers at None)
    = λ one at. elim (cases_eq at index) [
      | inl here ↦
          ap (λ i. leads_to one (get_or new.readers i None)) here ∙ ap (λ all. leads_to one (get_or all index None)) readers
          ∙ ap (λ r. leads_to one r) (get_or-set_same old.readers index (Some reader) None within) ∙ same_leads one
          (get_or old.readers index None) leads ∙ ap (λ i. leads_to one (get_or old.readers i None)) (sym here)
      | inr not ↦ ap (λ all. leads_to one (get_or all at None)) readers ∙ ap (λ r. leads_to one r)
          (get_or-set_other old.readers index at (Some reader) None not)
    ] in (
      ap (λ port. port.stands) is ∙ ap (λ port. port.stands) joins.1,
      record {
        ties = ap (λ port. port.ties) is ∙ ap (λ port. port.ties) joins.1;
        live = λ at live. live_same at ∙ live;
        leads = λ one at live. leads_same one at;
        read = λ one at lead. live_same at ∙ read one at (sym (leads_same one at) ∙ lead);
        known = λ at live. elim (cases_eq at index) [
          | inl here ↦ inl (inl (ap (λ i. is_attached (get_or new.readers i None)) here
              ∙ ap (λ all. is_attached (get_or all index None)) readers
              ∙ ap is_attached (get_or-set_same old.readers index (Some reader) None within)))
          | inr not ↦ inr (
            sym (live_same at) ∙ live,
            known_still at old new (ap (λ all. get_or all at None) readers
                ∙ get_or-set_other old.readers index at (Some reader) None not)
                (ap (λ port. port.ties) is ∙ ap (λ port. port.ties) joins.1),
          )
        ];
        sole = λ sole. sole_still old new leads_same sole;
        all = λ all at live. elim (cases_eq at index) [
          | inl here ↦ ap (λ i. is_some (get_or new.readers i None)) here ∙ ap (λ all. is_some (get_or all index None)) readers
              ∙ ap (λ one. is_some one) (get_or-set_same old.readers index (Some reader) None within)
          | inr not ↦ ap (λ all. is_some (get_or all at None)) readers
              ∙ ap (λ one. is_some one) (get_or-set_other old.readers index at (Some reader) None not)
              ∙ all at (sym (live_same at) ∙ live)
        ];
      },
    )
  where
    same_leads : (one : ℕ) (found : Option Reader) → leads_to subscriber found ≡ true → (subscriber == one) ≡ leads_to one found
    same_leads one None leads = cc
    same_leads one (Some reader) leads = ap (λ n. n == one) (sym (eqb-true reader.subscriber subscriber leads))
attaches_kept {T} {U} subscriber limit index None old joined new read is_found joins is =
    let made : MadeAt subscriber index old joined = connects_made subscriber limit index false old joined joins in
    let reader : Reader = record { subscriber = subscriber; attached = true } in
    let readers : new.readers ≡ set joined.readers index (Some reader) = ap (λ port. port.readers) is in
    let live_same : (at : ℕ) → is_live at new ≡ is_live at joined = λ at. ap (λ port. is_live at port) is in
    let reader_other : (at : ℕ) → at ≢ index → get_or new.readers at None ≡ get_or old.readers at None = λ at not.
    ap (λ all. get_or all at None) readers ∙ get_or-set_other joined.readers index at (Some reader) None not ∙ made.readers at not in
    let apart : (at : ℕ) → is_live at old ≡ true
    → at ≢ index = λ at live same. let no : true ≡ false = sym live ∙ ap (λ i. is_live i old) same ∙ made.none in cc in
    let leads_joined : (one at : ℕ) → leads_to one (get_or new.readers at None) ≡ leads_to one (get_or joined.readers at None)
    = λ one at. ap (λ all. leads_to one (get_or all at None)) readers
    ∙ same_joined one index at joined.readers made.leads_there in (
      ap (λ port. port.stands) is ∙ made.stands,
      record {
        ties = ap (λ port. port.ties) is ∙ made.ties;
        live = λ at live. live_same at ∙ made.live at (apart at live) ∙ live;
        leads = λ one at live. ap (λ r. leads_to one r) (reader_other at (apart at live));
        read = λ one at lead. elim (cases_eq at index) [
          | inl same ↦ live_same at ∙ ap (λ i. is_live i joined) same ∙ made.goes
          | inr not ↦ live_same at ∙ made.live at not ∙ read one at (ap (λ r. leads_to one r) (sym (reader_other at not)) ∙ lead)
        ];
        known = λ at live. elim (cases_eq at index) [
          | inl here ↦ inl (inl (ap (λ i. is_attached (get_or new.readers i None)) here
              ∙ ap (λ all. is_attached (get_or all index None)) readers
              ∙ ap is_attached (set_reader joined.readers index reader (reader_there (get_or joined.readers index None) made.leads_there))))
          | inr not ↦ inr (
            sym (made.live at not) ∙ sym (live_same at) ∙ live,
            known_still at old new (reader_other at not) (ap (λ port. port.ties) is ∙ made.ties),
          )
        ];
        sole = λ sole. sole_still joined new leads_joined (made_sole subscriber index old joined made is_found sole);
        all = λ all at live. elim (cases_eq at index) [
          | inl here ↦ ap (λ i. is_some (get_or new.readers i None)) here ∙ ap (λ all. is_some (get_or all index None)) readers
              ∙ ap (λ one. is_some one)
              (set_reader joined.readers index reader (reader_there (get_or joined.readers index None) made.leads_there))
          | inr not ↦ ap (λ one. is_some one) (reader_other at not) ∙ all at (sym (made.live at not) ∙ sym (live_same at) ∙ live)
        ];
      },
    )
  where
    same_reader : (one : ℕ) (found : Option Reader) → leads_to subscriber found ≡ true → (subscriber == one) ≡ leads_to one found
    same_reader one None leads = cc
    same_reader one (Some reader) leads = ap (λ n. n == one) (sym (eqb-true reader.subscriber subscriber leads))

    same_joined : (one index at : ℕ) (readers : List (Option Reader)) → leads_to subscriber (get_or readers index None) ≡ true
        → leads_to one (get_or (set readers index (Some (record { subscriber = subscriber; attached = true }))) at None)
        ≡ leads_to one (get_or readers at None)
    same_joined one index at [] leads = let no : false ≡ true = leads in absurd (cc)
    same_joined one zero zero (reader ∷ readers) leads = same_reader one reader leads
    same_joined one zero (suc at) (reader ∷ readers) leads = refl
    same_joined one (suc index) zero (reader ∷ readers) leads = refl
    same_joined one (suc index) (suc at) (reader ∷ readers) leads = same_joined one index at readers leads

    reader_there : (found : Option Reader) → leads_to subscriber found ≡ true → is_some found ≡ true
    reader_there None leads = cc
    reader_there (Some reader) leads = refl

    set_reader : (readers : List (Option Reader)) (at : ℕ) (reader : Reader) → is_some (get_or readers at None) ≡ true
        → get_or (set readers at (Some reader)) at None ≡ Some reader
    set_reader [] at reader is = let no : false ≡ true = is in absurd (cc)
    set_reader (one ∷ readers) zero reader is = refl
    set_reader (one ∷ readers) (suc at) reader is = set_reader readers at reader is

pub attaches_well : {T U : Type 0} (next : ℕ) (places : List (Option (Member SubscriberEntry))) (subscriber limit index : ℕ)
    (old new : PublisherPort T U) → Attaches subscriber limit old (Ok index) new → IsTiedWell next places old
    → (new.stands ≡ old.stands) × IsTiedWell next places new
attaches_well {T} {U} next places subscriber limit index old new attaches well =
    let kept = attaches_kept subscriber limit index (connection_to subscriber old) old attaches.0 new well.read refl attaches.1
    attaches.2 in
    (kept.0, well_kept next places old new kept.1 well)
