-- Two agreements with one line, and of one hash, are the same.
use Rattle.std.proofs.Common.{◌≡◌, ◌∙◌, ℕ, Bool, false, List, [], ◌∷◌, map, Option, None, Some, refl, sym, ap, subst, arith}
use Rattle.std.specs.Prelude.{codes}
use Rattle.serde_json.specs.Data.{Items, boolean, string, array, object}
use Rattle.serde_json.specs.Find.{get}
use Rattle.serde_json.specs.View.{items_of}
use Rattle.iox_negotiate_table.specs.DescribeBase.declared.attribute.Attribute.{Attribute}
use Rattle.iox_negotiate_table.specs.DescribeBase.declared.message_type.MessageTypeDetails.{MessageTypeDetails}
use Rattle.iox_negotiate_table.specs.DescribeBase.declared.pattern.MessagingPattern.TheVariants as pattern
use Rattle.iox_negotiate_table.specs.DescribeBase.declared.type_detail.TypeVariant.{TypeVariant}
use Rattle.iox_negotiate_table.specs.DescribeBase.declared.type_detail.TypeVariant.TheVariants.{FixedSize, Dynamic}
use Rattle.iox_negotiate_table.specs.DescribeBase.Detail.{Detail}
use Rattle.iox_negotiate_table.specs.DescribeSettings.Agreement.{Agreement, pattern_of}
use Rattle.iox_negotiate_table.specs.DescribeSettings.Setting.{filled, number, optional_number, switch, types}
use Rattle.iox_negotiate_table.specs.DescribeSettings.declared.setting.Rule.{Rule}
use Rattle.iox_negotiate_table.specs.DescribeSettings.declared.setting.SettingValue.{SettingValue}
use Rattle.iox_negotiate_table.specs.DescribeSettings.declared.setting.SettingValue.TheVariants.{Switch, Number, OptionalNumber, Types}
use Rattle.iox_negotiate_table.specs.DescribeSettings.declared.static_config.Settings.{Settings}
use Rattle.iox_negotiate_table.specs.DescribeSettings.declared.static_config.Settings.TheVariants.{RequestResponse, PublishSubscribe, Event}
use Rattle.iox_negotiate_table.specs.DescribeSettings.declared.static_config.publish_subscribe.StaticConfig.{StaticConfig as PublishSubscribeConfig}
use Rattle.iox_negotiate_table.specs.DescribeSettings.declared.static_config.publish_subscribe.Setting.{Setting as PublishSubscribeSetting}
use Rattle.iox_negotiate_table.specs.DescribeSettings.declared.static_config.publish_subscribe.Setting.TheVariants as publish_subscribe_setting
use Rattle.iox_negotiate_table.specs.DescribeSettings.declared.static_config.event.StaticConfig.{StaticConfig as EventConfig}
use Rattle.iox_negotiate_table.specs.DescribeSettings.declared.static_config.event.Setting.{Setting as EventSetting}
use Rattle.iox_negotiate_table.specs.DescribeSettings.declared.static_config.event.Setting.TheVariants as event_setting
use Rattle.iox_negotiate_table.specs.DescribeSettings.declared.static_config.request_response.StaticConfig.{StaticConfig as RequestResponseConfig}
use Rattle.iox_negotiate_table.specs.DescribeSettings.declared.static_config.request_response.Setting.{Setting as RequestResponseSetting}
use Rattle.iox_negotiate_table.specs.DescribeSettings.declared.static_config.request_response.Setting.TheVariants as request_response_setting
use Rattle.iox_negotiate_table.specs.DescribeSettings.PublishSubscribeSettings as publish_subscribe
use Rattle.iox_negotiate_table.specs.DescribeSettings.EventSettings as event
use Rattle.iox_negotiate_table.specs.DescribeSettings.RequestResponseSettings as request_response
use Rattle.iox_negotiate_table.specs.Describe.Line.{settings_members, settings_tree, types_tree, detail_tree, value_tree}
use Rattle.iox_negotiate_table.specs.Describe.Line.{option_tree, variant_word, pattern_word, attribute_tree, Spells}
use Rattle.iox_negotiate_table.specs.DescribeSettings.declared.description.Version.{Version}
use Rattle.iox_negotiate_table.specs.DescribeSettings.declared.description.Version.TheVariants.{One, Two}
use Rattle.iox_negotiate_table.specs.DescribeSettings.Versions.{number_of, HasAll}
use Rattle.iox_negotiate_table.specs.Describe.Within.{IsWithinLimits}
use Rattle.iox_negotiate_table.proofs.Describe.Trees.{same_items}
use Rattle.iox_negotiate.proofs.Rooms.{same-data, same-natural, spelled-trees}

same-boolean : (one other : Bool) → Some (boolean one) ≡ Some (boolean other) → one ≡ other
same-boolean one other e = cc

same-string : (one other : List ℕ) → Some (string one) ≡ Some (string other) → one ≡ other
same-string one other e = cc

same-option : (one other : Option ℕ) → Some (option_tree one) ≡ Some (option_tree other) → one ≡ other
same-option None None e = refl
same-option None (Some other) e = absurd cc
same-option (Some one) None e = absurd cc
same-option (Some one) (Some other) e = ap (λ n. Some n) (same-natural one other e)

same-variant : (one other : TypeVariant) → variant_word one ≡ variant_word other → one ≡ other
same-variant FixedSize FixedSize e = refl
same-variant FixedSize Dynamic e = absurd cc
same-variant Dynamic FixedSize e = absurd cc
same-variant Dynamic Dynamic e = refl

same-detail : (one other : Detail) → Some (detail_tree one) ≡ Some (detail_tree other) → one ≡ other
same-detail one other e =
    let trees = same-data (detail_tree one) (detail_tree other) e in
    let alignment = same-natural one.alignment other.alignment (ap (λ d. get (codes "alignment") d) trees) in
    let name = same-string one.name other.name (ap (λ d. get (codes "name") d) trees) in
    let size = same-natural one.size other.size (ap (λ d. get (codes "size") d) trees) in
    let variant = same-variant one.variant other.variant
    (same-string (variant_word one.variant) (variant_word other.variant) (ap (λ d. get (codes "variant") d) trees)) in
    λ i. record { variant = variant i; name = name i; size = size i; alignment = alignment i }

same-types : (one other : MessageTypeDetails) → Some (types_tree one) ≡ Some (types_tree other) → one ≡ other
same-types one other e =
    let trees = same-data (types_tree one) (types_tree other) e in
    let header = same-detail one.header other.header (ap (λ d. get (codes "header") d) trees) in
    let payload = same-detail one.payload other.payload (ap (λ d. get (codes "payload") d) trees) in
    let user_header = same-detail one.user_header other.user_header (ap (λ d. get (codes "user_header") d) trees) in
    λ i. record { header = header i; user_header = user_header i; payload = payload i }

-- ---- settings

-- a rule that is for values of this kind
abbrev kind : SettingValue → Rule
kind (Switch b) = switch false
kind (Number n) = number 0 0 None
kind (OptionalNumber o) = optional_number None
kind (Types t) = types

same-value : (one other : SettingValue) → kind one ≡ kind other → value_tree one ≡ value_tree other → one ≡ other
same-value (Switch a) (Switch b) k e = ap (λ x. Switch x) (same-boolean a b (ap (λ t. Some t) e))
same-value (Switch a) (Number b) k e = absurd cc
same-value (Switch a) (OptionalNumber b) k e = absurd cc
same-value (Switch a) (Types b) k e = absurd cc
same-value (Number a) (Switch b) k e = absurd cc
same-value (Number a) (Number b) k e = ap (λ x. Number x) (same-natural a b (ap (λ t. Some t) e))
same-value (Number a) (OptionalNumber b) k e = absurd cc
same-value (Number a) (Types b) k e = absurd cc
same-value (OptionalNumber a) (Switch b) k e = absurd cc
same-value (OptionalNumber a) (Number b) k e = absurd cc
same-value (OptionalNumber a) (OptionalNumber b) k e = ap (λ x. OptionalNumber x) (same-option a b (ap (λ t. Some t) e))
same-value (OptionalNumber a) (Types b) k e = absurd cc
same-value (Types a) (Switch b) k e = absurd cc
same-value (Types a) (Number b) k e = absurd cc
same-value (Types a) (OptionalNumber b) k e = absurd cc
same-value (Types a) (Types b) k e = ap (λ x. Types x) (same-types a b (ap (λ t. Some t) e))

-- what is filled in from settings that are told alike is alike
same-filled : {S C : Type 0} (key : S → List ℕ) (value : S → C → SettingValue) (changed : S → SettingValue → C → C)
    → ((setting : S) (one other : C) → kind (value setting one) ≡ kind (value setting other)) → (settings : List S) (one other config : C)
    → settings_members key value settings one ≡ settings_members key value settings other
    → filled value changed settings one config ≡ filled value changed settings other config
same-filled key value changed kinds [] one other config e = refl
same-filled key value changed kinds (setting ∷ more) one other config e =
    let first : value_tree (value setting one) ≡ value_tree (value setting other) = cc in
    let rest : settings_members key value more one ≡ settings_members key value more other = cc in
    ap (λ v. filled value changed more one (changed setting v config))
    (same-value (value setting one) (value setting other) (kinds setting one other) first)
    ∙ same-filled key value changed kinds more one other (changed setting (value setting other) config) rest

-- settings of a pattern that are told alike are the same, where what isn't told is the same, and each keeps its kind
same-config : {S C : Type 0} (key : S → List ℕ) (value : S → C → SettingValue) (changed : S → SettingValue → C → C) (all : List S)
    → ((setting : S) (one other : C) → kind (value setting one) ≡ kind (value setting other))
    → (one other : C) → filled value changed all one one ≡ one → filled value changed all other one ≡ other
    → object (settings_members key value all one) ≡ object (settings_members key value all other) → one ≡ other
same-config key value changed all kinds one other own whole trees =
    let members : settings_members key value all one ≡ settings_members key value all other = cc in
    sym own ∙ same-filled key value changed kinds all one other one members ∙ whole

publish_subscribe_kinds : (setting : PublishSubscribeSetting) (one other : PublishSubscribeConfig)
    → kind (publish_subscribe.value setting one) ≡ kind (publish_subscribe.value setting other)
publish_subscribe_kinds
    = elim [
      | publish_subscribe_setting.EnableSafeOverflow ↦ λ one other. refl
      | publish_subscribe_setting.HistorySize ↦ λ one other. refl
      | publish_subscribe_setting.MaxNodes ↦ λ one other. refl
      | publish_subscribe_setting.MaxPublishers ↦ λ one other. refl
      | publish_subscribe_setting.MaxSubscribers ↦ λ one other. refl
      | publish_subscribe_setting.SequenceNumbers ↦ λ one other. refl
      | publish_subscribe_setting.SubscriberMaxBorrowedSamples ↦ λ one other. refl
      | publish_subscribe_setting.SubscriberMaxBufferSize ↦ λ one other. refl
      | publish_subscribe_setting.Types ↦ λ one other. refl
    ]

event_kinds : (setting : EventSetting) (one other : EventConfig) → kind (event.value setting one) ≡ kind (event.value setting other)
event_kinds = elim [
  | event_setting.Deadline ↦ λ one other. refl
  | event_setting.EventIdMaxValue ↦ λ one other. refl
  | event_setting.MaxListeners ↦ λ one other. refl
  | event_setting.MaxNodes ↦ λ one other. refl
  | event_setting.MaxNotifiers ↦ λ one other. refl
  | event_setting.NotifierCreatedEvent ↦ λ one other. refl
  | event_setting.NotifierDeadEvent ↦ λ one other. refl
  | event_setting.NotifierDroppedEvent ↦ λ one other. refl
]

request_response_kinds : (setting : RequestResponseSetting) (one other : RequestResponseConfig)
    → kind (request_response.value setting one) ≡ kind (request_response.value setting other)
request_response_kinds
    = elim [
      | request_response_setting.EnableFireAndForgetRequests ↦ λ one other. refl
      | request_response_setting.EnableSafeOverflowForRequests ↦ λ one other. refl
      | request_response_setting.EnableSafeOverflowForResponses ↦ λ one other. refl
      | request_response_setting.MaxActiveRequestsPerClient ↦ λ one other. refl
      | request_response_setting.MaxBorrowedResponsesPerPendingResponse ↦ λ one other. refl
      | request_response_setting.MaxClients ↦ λ one other. refl
      | request_response_setting.MaxLoanedRequests ↦ λ one other. refl
      | request_response_setting.MaxNodes ↦ λ one other. refl
      | request_response_setting.MaxResponseBufferSize ↦ λ one other. refl
      | request_response_setting.MaxServers ↦ λ one other. refl
      | request_response_setting.RequestTypes ↦ λ one other. refl
      | request_response_setting.ResponseTypes ↦ λ one other. refl
    ]

abbrev first_byte : List ℕ → ℕ
first_byte [] = 0
first_byte (byte ∷ more) = byte

publish_subscribe-event : pattern_word pattern.PublishSubscribe ≡ pattern_word pattern.Event → ⊥
publish_subscribe-event e = let bytes : 112 ≡ 101 = ap first_byte e in omega (arith, bytes)

publish_subscribe-request_response : pattern_word pattern.PublishSubscribe ≡ pattern_word pattern.RequestResponse → ⊥
publish_subscribe-request_response e = let bytes : 112 ≡ 114 = ap first_byte e in omega (arith, bytes)

event-request_response : pattern_word pattern.Event ≡ pattern_word pattern.RequestResponse → ⊥
event-request_response e = let bytes : 101 ≡ 114 = ap first_byte e in omega (arith, bytes)

same-settings : (version : Version) (one other : Settings) → HasAll version one → HasAll version other
    → settings_tree version one ≡ settings_tree version other
    → pattern_word (pattern_of one) ≡ pattern_word (pattern_of other) → one ≡ other
same-settings One (PublishSubscribe one) (PublishSubscribe other) off off' trees words =
    ap (λ config. PublishSubscribe config)
    (same-config publish_subscribe.key publish_subscribe.value publish_subscribe.changed (publish_subscribe.written One)
    publish_subscribe_kinds one other refl (λ i. record other { sequence_numbers = (off ∙ sym off') i }) trees)
same-settings Two (PublishSubscribe one) (PublishSubscribe other) has has' trees words =
    ap (λ config. PublishSubscribe config)
    (same-config publish_subscribe.key publish_subscribe.value publish_subscribe.changed publish_subscribe.all
    publish_subscribe_kinds one other refl refl trees)
same-settings version (PublishSubscribe one) (Event other) has has' trees words = absurd (publish_subscribe-event words)
same-settings version (PublishSubscribe one) (RequestResponse other) has has' trees words
    = absurd (publish_subscribe-request_response words)
same-settings version (Event one) (PublishSubscribe other) has has' trees words = absurd (publish_subscribe-event (sym words))
same-settings version (Event one) (Event other) has has' trees words =
    ap (λ config. Event config) (same-config event.key event.value event.changed event.all event_kinds one other refl refl trees)
same-settings version (Event one) (RequestResponse other) has has' trees words = absurd (event-request_response words)
same-settings version (RequestResponse one) (PublishSubscribe other) has has' trees words
    = absurd (publish_subscribe-request_response (sym words))
same-settings version (RequestResponse one) (Event other) has has' trees words = absurd (event-request_response (sym words))
same-settings version (RequestResponse one) (RequestResponse other) has has' trees words =
    ap (λ config. RequestResponse config)
    (same-config request_response.key request_response.value request_response.changed request_response.all request_response_kinds one
    other refl refl trees)

-- ---- attributes

same-array : (one other : Items) → Some (array one) ≡ Some (array other) → one ≡ other
same-array one other e = cc

same-attribute : (one other : Attribute) → attribute_tree one ≡ attribute_tree other → one ≡ other
same-attribute one other e =
    let key : one.key ≡ other.key = cc in
    let value : one.value ≡ other.value = cc in
    λ i. record { key = key i; value = value i }

same-attributes : (one other : List Attribute) → map attribute_tree one ≡ map attribute_tree other → one ≡ other
same-attributes [] [] e = refl
same-attributes [] (other ∷ others) e = absurd cc
same-attributes (one ∷ ones) [] e = absurd cc
same-attributes (one ∷ ones) (other ∷ others) e =
    let first : attribute_tree one ≡ attribute_tree other = cc in
    let rest : map attribute_tree ones ≡ map attribute_tree others = cc in
    let is = same-attribute one other first in
    let more = same-attributes ones others rest in
    λ i. is i ∷ more i

-- ---- agreements

same-version : (one other : Version) → number_of one ≡ number_of other → one ≡ other
same-version One One e = refl
same-version One Two e = absurd cc
same-version Two One e = absurd cc
same-version Two Two e = refl

pub same-line : (one other : Agreement) (bytes text : List ℕ) → IsWithinLimits one → IsWithinLimits other → Spells bytes one
    → Spells text other → bytes ≡ text → one.service_hash ≡ other.service_hash → one ≡ other
same-line one other bytes text within within' first second same service_hash =
    let trees = spelled-trees one other bytes text within within' first second same in
    let version = same-version first.0 second.0
    (same-natural (number_of first.0) (number_of second.0) (ap (λ t. get (codes "version") t) trees)) in
    let name = same-string one.name other.name (ap (λ t. get (codes "name") t) trees) in
    let words = same-string (pattern_word (pattern_of one.settings)) (pattern_word (pattern_of other.settings))
    (ap (λ t. get (codes "pattern") t) trees) in
    let told = same-data (settings_tree first.0 one.settings) (settings_tree second.0 other.settings)
    (ap (λ t. get (codes "settings") t) trees) in
    let settings = same-settings first.0 one.settings other.settings first.1
    (subst (λ v. HasAll v other.settings) (sym version) second.1)
    (told ∙ ap (λ v. settings_tree v other.settings) (sym version)) words in
    let items = same-array (items_of (map attribute_tree one.attributes)) (items_of (map attribute_tree other.attributes))
    (ap (λ t. get (codes "attributes") t) trees) in
    let attributes = same-attributes one.attributes other.attributes
    (same_items (map attribute_tree one.attributes) (map attribute_tree other.attributes) items) in
    λ i. record { name = name i; service_hash = service_hash i; settings = settings i; attributes = attributes i }
