-- What an opener requires of a request-response service, clause by clause.
use Rattle.std.specs.Prelude.{◌∷◌, [], List, Bool, true, false, Option, Some, None, option_map, unwrap_or}
use Rattle.iox_describe_settings.specs.DescribeBase.declared.message_type.MessageTypeDetails.{MessageTypeDetails}
use Rattle.iox_describe_verdict.specs.declared.requirement.request_response.Requirement.{Requirement}
use Rattle.iox_describe_verdict.specs.declared.requirement.request_response.ClauseError.{ClauseError}
use Rattle.iox_describe_verdict.specs.declared.requirement.request_response.ClauseError.TheVariants as error
use Rattle.iox_describe_settings.specs.declared.static_config.request_response.Setting.{Setting}
use Rattle.iox_describe_settings.specs.declared.static_config.request_response.Setting.TheVariants.{EnableFireAndForgetRequests}
use Rattle.iox_describe_settings.specs.declared.static_config.request_response.Setting.TheVariants.{EnableSafeOverflowForRequests}
use Rattle.iox_describe_settings.specs.declared.static_config.request_response.Setting.TheVariants.{EnableSafeOverflowForResponses}
use Rattle.iox_describe_settings.specs.declared.static_config.request_response.Setting.TheVariants.{MaxActiveRequestsPerClient}
use Rattle.iox_describe_settings.specs.declared.static_config.request_response.Setting.TheVariants.{MaxBorrowedResponsesPerPendingResponse}
use Rattle.iox_describe_settings.specs.declared.static_config.request_response.Setting.TheVariants.{MaxClients, MaxLoanedRequests}
use Rattle.iox_describe_settings.specs.declared.static_config.request_response.Setting.TheVariants.{MaxNodes, MaxResponseBufferSize}
use Rattle.iox_describe_settings.specs.declared.static_config.request_response.Setting.TheVariants.{MaxServers, RequestTypes}
use Rattle.iox_describe_settings.specs.declared.static_config.request_response.Setting.TheVariants.{ResponseTypes}
use Rattle.iox_describe_settings.specs.declared.static_config.request_response.StaticConfig.{StaticConfig}
use Rattle.iox_describe_settings.specs.declared.static_config.Settings.{Settings}
use Rattle.iox_describe_settings.specs.declared.static_config.Settings.TheVariants.{RequestResponse, PublishSubscribe, Event}
use Rattle.iox_describe_settings.specs.DescribeBase.declared.attribute.Attribute.{Attribute}
use Rattle.iox_describe_settings.specs.Agreement.{Agreement}
use Rattle.iox_describe_settings.specs.DescribeBase.Attributes.{Required, has_required, IsFewer}
use Rattle.iox_describe_settings.specs.declared.setting.SettingValue.{SettingValue}
use Rattle.iox_describe_settings.specs.declared.setting.SettingValue.TheVariants as value
use Rattle.iox_describe_settings.specs.RequestResponseSettings as settings
use Rattle.iox_describe_verdict.specs.Verdict.{is_met, overlaid, AsksLess}

-- The requirement that names no setting except the types.
abbrev pub unnamed : MessageTypeDetails → MessageTypeDetails → Required → Requirement
unnamed request_types response_types attributes = record {
  request_types = request_types;
  response_types = response_types;
  attributes = attributes;
  enable_safe_overflow_for_requests = None;
  enable_safe_overflow_for_responses = None;
  enable_fire_and_forget_requests = None;
  max_loaned_requests = None;
  max_active_requests_per_client = None;
  max_response_buffer_size = None;
  max_servers = None;
  max_clients = None;
  max_borrowed_responses_per_pending_response = None;
  max_nodes = None;
}

-- The value that is asked of each setting, if it is named.
abbrev pub named : Setting → Requirement → Option SettingValue
named EnableFireAndForgetRequests r = option_map value.Switch r.enable_fire_and_forget_requests
named EnableSafeOverflowForRequests r = option_map value.Switch r.enable_safe_overflow_for_requests
named EnableSafeOverflowForResponses r = option_map value.Switch r.enable_safe_overflow_for_responses
named MaxActiveRequestsPerClient r = option_map value.Number r.max_active_requests_per_client
named MaxBorrowedResponsesPerPendingResponse r = option_map value.Number r.max_borrowed_responses_per_pending_response
named MaxClients r = option_map value.Number r.max_clients
named MaxLoanedRequests r = option_map value.Number r.max_loaned_requests
named MaxNodes r = option_map value.Number r.max_nodes
named MaxResponseBufferSize r = option_map value.Number r.max_response_buffer_size
named MaxServers r = option_map value.Number r.max_servers
named RequestTypes r = Some (value.Types r.request_types)
named ResponseTypes r = Some (value.Types r.response_types)

-- The settings that are asked for; a setting that isn't named has its default.
abbrev pub asked : Requirement → StaticConfig
asked r = overlaid settings.changed (λ setting. named setting r) settings.all (settings.defaults r.request_types r.response_types)

-- Equivalently, field by field: the settings that are asked for.
abbrev pub asked_fields : Requirement → StaticConfig
asked_fields r = record {
  enable_fire_and_forget_requests = unwrap_or r.enable_fire_and_forget_requests true;
  enable_safe_overflow_for_requests = unwrap_or r.enable_safe_overflow_for_requests true;
  enable_safe_overflow_for_responses = unwrap_or r.enable_safe_overflow_for_responses true;
  max_active_requests_per_client = unwrap_or r.max_active_requests_per_client 4;
  max_borrowed_responses_per_pending_response = unwrap_or r.max_borrowed_responses_per_pending_response 2;
  max_clients = unwrap_or r.max_clients 8;
  max_loaned_requests = unwrap_or r.max_loaned_requests 2;
  max_nodes = unwrap_or r.max_nodes 20;
  max_response_buffer_size = unwrap_or r.max_response_buffer_size 2;
  max_servers = unwrap_or r.max_servers 2;
  request_types = r.request_types;
  response_types = r.response_types;
}

-- The error of each setting if it isn't met.
abbrev pub error_of : Setting → ClauseError
error_of EnableFireAndForgetRequests = error.IncompatibleBehaviorForFireAndForgetRequests
error_of EnableSafeOverflowForRequests = error.IncompatibleOverflowBehaviorForRequests
error_of EnableSafeOverflowForResponses = error.IncompatibleOverflowBehaviorForResponses
error_of MaxActiveRequestsPerClient = error.DoesNotSupportRequestedAmountOfActiveRequestsPerClient
error_of MaxBorrowedResponsesPerPendingResponse = error.DoesNotSupportRequestedAmountOfBorrowedResponsesPerPendingResponse
error_of MaxClients = error.DoesNotSupportRequestedAmountOfClients
error_of MaxLoanedRequests = error.DoesNotSupportRequestedAmountOfClientRequestLoans
error_of MaxNodes = error.DoesNotSupportRequestedAmountOfNodes
error_of MaxResponseBufferSize = error.DoesNotSupportRequestedResponseBufferSize
error_of MaxServers = error.DoesNotSupportRequestedAmountOfServers
error_of RequestTypes = error.IncompatibleRequestType
error_of ResponseTypes = error.IncompatibleResponseType

-- The clause on a setting: whether it is met, and its error.
abbrev pub clause : Requirement → StaticConfig → Setting → Bool × ClauseError
clause r c setting = (is_met (named setting r) (settings.value setting c), error_of setting)

-- The clauses on a service of this pattern, each with its error, in the order in which they are tested.
abbrev pub clauses_on : Requirement → List Attribute → StaticConfig → List (Bool × ClauseError)
clauses_on r attributes c =
    clause r c RequestTypes
    ∷ clause r c ResponseTypes
    ∷ (has_required r.attributes attributes, error.IncompatibleAttributes)
    ∷ clause r c EnableSafeOverflowForRequests
    ∷ clause r c EnableSafeOverflowForResponses
    ∷ clause r c EnableFireAndForgetRequests
    ∷ clause r c MaxLoanedRequests
    ∷ clause r c MaxActiveRequestsPerClient
    ∷ clause r c MaxResponseBufferSize
    ∷ clause r c MaxServers
    ∷ clause r c MaxClients
    ∷ clause r c MaxBorrowedResponsesPerPendingResponse
    ∷ clause r c MaxNodes
    ∷ []

-- The clauses on any service, of which the one on the pattern is first; a service of another pattern doesn't meet this one.
abbrev pub clauses_of : Requirement → List Attribute → Settings → List (Bool × ClauseError)
clauses_of r attributes (RequestResponse c) = (true, error.IncompatibleMessagingPattern) ∷ clauses_on r attributes c
clauses_of r attributes (PublishSubscribe c) = (false, error.IncompatibleMessagingPattern) ∷ []
clauses_of r attributes (Event c) = (false, error.IncompatibleMessagingPattern) ∷ []

-- The clauses of a requirement on an agreement.
abbrev pub clauses : Requirement → Agreement → List (Bool × ClauseError)
clauses r a = clauses_of r a.attributes a.settings

-- The requirement `weak` requires at most the attributes that `strong` requires, and asks of each setting at most what `strong` asks.
pub record IsWeaker (weak strong : Requirement) : Type 0 where
  pub attributes : IsFewer weak.attributes strong.attributes
  pub settings : (setting : Setting) → AsksLess (named setting weak) (named setting strong)
