-- A factory that was opened gets a number, is of its hub, and its service is as it was asked for.
use Rattle.std.proofs.Common.{◌≡◌, ℕ, true, IfOk, List, [], Some, Result, Ok, Err, refl, subst}
use Rattle.std.specs.Result.{result_map_both}
use Rattle.iox_command.specs.NegotiateBase.PublishSubscribeErrors as publish_subscribe
use Rattle.iox_command.specs.NegotiateBase.declared.errors.publish_subscribe.PublishSubscribeCreateError.{PublishSubscribeCreateError}
use Rattle.iox_command.specs.NegotiateBase.declared.errors.publish_subscribe.PublishSubscribeOpenError.{PublishSubscribeOpenError}
use Rattle.iox_negotiate_base.specs.declared.errors.publish_subscribe.PublishSubscribeOpenOrCreateError.{PublishSubscribeOpenOrCreateError}
use Rattle.iox_command.specs.declared.refusal.Refusal.{Refusal}
use Rattle.iox_command.specs.declared.refusal.Refusal.TheVariants as refusal
use Rattle.iox_command.specs.declared.service.PublishSubscribeOptions.{PublishSubscribeOptions}
use Rattle.iox_command.specs.declared.service.ServiceOptions.TheVariants as options
use Rattle.iox_hub_base.specs.Hubs.{is_node}
use Rattle.iox_hub_base.specs.Opening.{Made as Opened}
use Rattle.iox_hub_base.specs.declared.hub.Hub.{Hub}
use Rattle.iox_hub_commands.specs.Asked.{required_publish_subscribe}
use Rattle.iox_hub_commands.specs.Asking.{agreed_of, hash_of}
use Rattle.iox_hub_commands.specs.Creating.{CreatesAgreed, CreatesAs}
use Rattle.iox_hub_commands.specs.DescribeBase.Attributes.{Required}
use Rattle.iox_hub_commands.specs.DescribeBase.Detail.{Detail}
use Rattle.iox_hub_commands.specs.DescribeBase.declared.attribute.Attribute.{Attribute}
use Rattle.iox_hub_commands.specs.DescribeBase.declared.message_type.MessageTypeDetails.{MessageTypeDetails}
use Rattle.iox_hub_commands.specs.DescribeBase.declared.pattern.MessagingPattern.TheVariants as pattern
use Rattle.iox_hub_commands.specs.Either.{EitherAs, EitherJudged}
use Rattle.iox_hub_base.specs.OfPattern.{OpensJudged}
use Rattle.iox_hub_commands.specs.Opening.{OpensAs}
use Rattle.iox_hub_commands.specs.ServicesNumbering.{GetsNumber, Numbers}
use Rattle.iox_hub_commands.specs.ServicesTables.{FactoryTable, parts_of, pattern_in}
use Rattle.iox_hub_commands.specs.declared.services.made.MadeFactory.{MadeFactory}
use Rattle.iox_negotiate.specs.Laws.{IsMet}
use Rattle.iox_negotiate.specs.declared.builder.Builder.{Builder}
use Rattle.iox_negotiate_table.specs.Describe.Within.{HasForm}
use Rattle.iox_negotiate_table.specs.DescribeBase.declared.hash.ServiceHash.{ServiceHash}
use Rattle.iox_negotiate_table.specs.DescribeSettings.Agreement.{Agreement}
use Rattle.iox_negotiate_table.specs.DescribeVerdict.PublishSubscribeClauses as publish_subscribe_clauses
use Rattle.iox_negotiate_table.specs.DescribeVerdict.Verdict.{first_unmet}
use Rattle.iox_negotiate_table.specs.DescribeVerdict.declared.requirement.publish_subscribe.ClauseError.{ClauseError as Clause}
use Rattle.iox_hub.proofs.AskedServices.{creates_so, either_so, of_parts, opens_so}
use Rattle.iox_hub.proofs.AskedWords.{as_asked, made_as_asked, met_as_asked}
use Rattle.iox_hub.specs.RecordedCalls.{IsAsAsked}
use Rattle.iox_hub.specs.RecordedLaws.{IsMetOrMade}
use Rattle.iox_hub.specs.RecordedNames.{as_made}
use Rattle.iox_hub.specs.Recording.{IsMadeAsAsked, IsMetAsAsked, OpensIf, factories_opened, told_opened}

module _ {F E : Type 0} (made : F → MadeFactory) (parts : F → Opened) (refused : E → Refusal) (table : FactoryTable)
    (same : (factory : F) → parts_of (made factory) ≡ parts factory)
    (kind : (factory : F) → pattern_in (made factory) ≡ pattern.PublishSubscribe) where
  gets_number : (answer : Result F E) → IfOk answer (λ factory. HasForm (parts factory).0.service.description)
      → Numbers pattern.PublishSubscribe refused (result_map_both parts (λ error. error) answer) table
      (told_opened refused table.next (result_map_both made (λ error. error) answer))
      (factories_opened table (result_map_both made (λ error. error) answer))
  gets_number (Ok factory) form = (made factory, kind factory, same factory, refl, refl, form)
  gets_number (Err why) form = (refl, refl)

  -- a node that was made asks for a service
  opens_made : {T U B D : Type 0} (opens : Hub T U B D → Result Opened E → Hub T U B D → Type 0)
      (asks : FactoryTable → Hub T U B D → Result ℕ Refusal → FactoryTable → Hub T U B D → Type 0) (node : ℕ) (old new : Hub T U B D)
      → ((answer : Result ℕ Refusal) (after : FactoryTable) → GetsNumber pattern.PublishSubscribe refused opens table old answer after new
      → asks table old answer after new)
      → (answer : Result F E) → is_node node old.nodes ≡ true → opens old (result_map_both parts (λ error. error) answer) new
      → IfOk answer (λ factory. HasForm (parts factory).0.service.description)
      → OpensIf refused node asks table old (as_made made (Some answer)) new
  opens_made opens asks node old new by (Ok factory) there does form = (
    there,
    by (told_opened refused table.next (Ok (made factory))) (factories_opened {E = E} table (Ok (made factory)))
        (Ok (parts factory), does, gets_number (Ok factory) form),
  )
  opens_made opens asks node old new by (Err why) there does form = (
    there,
    by (told_opened refused table.next (Err why)) (factories_opened {E = E} table (Err why))
        (Err why, does, gets_number (Err why) form),
  )

-- a node that was made asks a builder for a service
module _ {F T U B D : Type 0} (made : F → MadeFactory) (parts : F → Opened)
    (same : (factory : F) → parts_of (made factory) ≡ parts factory)
    (kind : (factory : F) → pattern_in (made factory) ≡ pattern.PublishSubscribe) (payload user_header : Detail)
    (types : MessageTypeDetails) (id node : ℕ) (name : List ℕ) (named : PublishSubscribeOptions) (builder : Builder)
    (is : builder ≡ record { hub = Some id; node = node; name = name }) (old new : Hub T U B D)
    (there : is_node node old.nodes ≡ true) where
  abbrev its_hash : List ℕ → ServiceHash
  its_hash given = hash_of given (options.PublishSubscribe named)

  abbrev judged_by : Required → Agreement → Result (Unit {0}) Clause
  judged_by required given = first_unmet (publish_subscribe_clauses.clauses (required_publish_subscribe named types required) given)

  -- what is known of an answer: its factory gets a number, this is so of its service, and it is of the hub
  abbrev Known : {E : Type 0} → (E → Refusal) → (FactoryTable → Hub T U B D → Result ℕ Refusal → FactoryTable → Hub T U B D → Type 0)
      → (F → Type 0) → Result F E → Type 0
  Known refused asks P answer = ((table : FactoryTable) → OpensIf refused node asks table old (as_made made (Some answer)) new)
      × IfOk answer P × IfOk answer (λ factory. (parts factory).0.storage ≡ old.table.id)

  pub created_there : (attributes : List Attribute) (answer : Result F PublishSubscribeCreateError)
      → CreatesAgreed payload user_header publish_subscribe.create_error (its_hash builder.name) builder.node
      (agreed_of builder.name (options.PublishSubscribe named) types attributes) [] old (result_map_both parts (λ error. error) answer) new
      → IfOk answer (λ factory. HasForm (parts factory).0.service.description)
      → Known refusal.PublishSubscribeCreate
      (CreatesAs (options.PublishSubscribe named) payload user_header types node name attributes [])
      (λ factory. IsMadeAsAsked types name named attributes (parts factory).0.service) answer
  created_there attributes answer creates form =
      let does = subst (λ (b : Builder). CreatesAgreed payload user_header publish_subscribe.create_error (its_hash b.name) b.node
      (agreed_of b.name (options.PublishSubscribe named) types attributes) [] old (result_map_both parts (λ error. error) answer) new) is
      creates in
      let comes = creates_so payload user_header (its_hash name) node (result_map_both parts (λ error. error) answer) old new
      publish_subscribe.create_error (agreed_of name (options.PublishSubscribe named) types attributes) does in (
        λ table. opens_made made parts refusal.PublishSubscribeCreate table same kind
            (CreatesAgreed payload user_header publish_subscribe.create_error (its_hash name) node
            (agreed_of name (options.PublishSubscribe named) types attributes) [])
            (CreatesAs (options.PublishSubscribe named) payload user_header types node name attributes []) node old new
            (λ answer after gets. gets) answer there does form,
        of_parts parts
            (λ it. (it.0.storage ≡ old.table.id)
            × (it.0.service.description ≡ agreed_of name (options.PublishSubscribe named) types attributes))
            (λ factory. IsMadeAsAsked types name named attributes (parts factory).0.service)
            (λ factory so. made_as_asked types name named attributes (parts factory).0.service so.1) answer comes,
        of_parts parts
            (λ it. (it.0.storage ≡ old.table.id)
            × (it.0.service.description ≡ agreed_of name (options.PublishSubscribe named) types attributes))
            (λ factory. (parts factory).0.storage ≡ old.table.id) (λ factory so. so.0) answer comes,
      )

  pub opened_there : (required : Required) (answer : Result F PublishSubscribeOpenError)
      → OpensJudged payload user_header publish_subscribe.open_error (its_hash builder.name) builder.node (judged_by required) [] old
      (result_map_both parts (λ error. error) answer) new
      → IfOk answer (λ factory. HasForm (parts factory).0.service.description)
      → Known refusal.PublishSubscribeOpen (OpensAs (options.PublishSubscribe named) payload user_header types node name required [])
      (λ factory. IsMetAsAsked types name named required (parts factory).0.service) answer
  opened_there required answer opens form =
      let does = subst (λ (b : Builder). OpensJudged payload user_header publish_subscribe.open_error (its_hash b.name) b.node
      (judged_by required) [] old (result_map_both parts (λ error. error) answer) new) is opens in
      let comes = opens_so payload user_header (its_hash name) node (result_map_both parts (λ error. error) answer) old new
      (judged_by required) publish_subscribe.open_error does in (
        λ table. opens_made made parts refusal.PublishSubscribeOpen table same kind
            (OpensJudged payload user_header publish_subscribe.open_error (its_hash name) node (judged_by required) [])
            (OpensAs (options.PublishSubscribe named) payload user_header types node name required []) node old new
            (λ answer after gets. gets) answer there does form,
        of_parts parts (λ it. (it.0.storage ≡ old.table.id) × IsMet (its_hash name) (judged_by required) it.0.service)
            (λ factory. IsMetAsAsked types name named required (parts factory).0.service)
            (λ factory so. met_as_asked types name named required (parts factory).0.service so.1) answer comes,
        of_parts parts (λ it. (it.0.storage ≡ old.table.id) × IsMet (its_hash name) (judged_by required) it.0.service)
            (λ factory. (parts factory).0.storage ≡ old.table.id) (λ factory so. so.0) answer comes,
      )

  pub either_there : (required : Required) (answer : Result F PublishSubscribeOpenOrCreateError)
      → EitherJudged payload user_header publish_subscribe.open_or_create_error (its_hash builder.name) builder.node (judged_by required)
      (agreed_of builder.name (options.PublishSubscribe named) types required.pairs) [] old
      (result_map_both parts (λ error. error) answer) new
      → IfOk answer (λ factory. HasForm (parts factory).0.service.description)
      → Known refusal.PublishSubscribeOpenOrCreate
      (EitherAs (options.PublishSubscribe named) payload user_header types node name required [])
      (λ factory. IsAsAsked types name named required (parts factory).0.service) answer
  either_there required answer opens form =
      let does = subst (λ (b : Builder). EitherJudged payload user_header publish_subscribe.open_or_create_error (its_hash b.name) b.node
      (judged_by required) (agreed_of b.name (options.PublishSubscribe named) types required.pairs) [] old
      (result_map_both parts (λ error. error) answer) new) is opens in
      let comes = either_so payload user_header (its_hash name) node (result_map_both parts (λ error. error) answer) old new
      (judged_by required) publish_subscribe.open_or_create_error
      (agreed_of name (options.PublishSubscribe named) types required.pairs) does in (
        λ table. opens_made made parts refusal.PublishSubscribeOpenOrCreate table same kind
            (EitherJudged payload user_header publish_subscribe.open_or_create_error (its_hash name) node (judged_by required)
            (agreed_of name (options.PublishSubscribe named) types required.pairs) [])
            (EitherAs (options.PublishSubscribe named) payload user_header types node name required []) node old new
            (λ answer after gets. gets) answer there does form,
        of_parts parts (λ it. (it.0.storage ≡ old.table.id) × IsMetOrMade types name named required it.0.service)
            (λ factory. IsAsAsked types name named required (parts factory).0.service)
            (λ factory so. as_asked types name named required (parts factory).0.service so.1) answer comes,
        of_parts parts (λ it. (it.0.storage ≡ old.table.id) × IsMetOrMade types name named required it.0.service)
            (λ factory. (parts factory).0.storage ≡ old.table.id) (λ factory so. so.0) answer comes,
      )
