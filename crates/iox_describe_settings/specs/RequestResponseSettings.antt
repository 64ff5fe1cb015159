-- The settings of a request-response service, as a list.
use Rattle.std.specs.Prelude.{ℕ, ◌^◌, List, [], ◌∷◌, codes, Some, None, true, false}
use Rattle.iox_describe_base.specs.declared.message_type.MessageTypeDetails.{MessageTypeDetails}
use Rattle.iox_describe_settings.specs.declared.setting.Rule.{Rule}
use Rattle.iox_describe_settings.specs.Setting.{number, switch, types as types_rule, defaulted, AreAllowed, adjusted as adjusted_settings}
use Rattle.iox_describe_settings.specs.declared.setting.SettingValue.{SettingValue}
use Rattle.iox_describe_settings.specs.declared.setting.SettingValue.TheVariants.{Switch, Number, Types}
use Rattle.iox_describe_settings.specs.declared.static_config.request_response.Setting.{Setting}
use Rattle.iox_describe_settings.specs.declared.static_config.request_response.Setting.TheVariants.{EnableFireAndForgetRequests}
use Rattle.iox_describe_settings.specs.declared.static_config.request_response.Setting.TheVariants.{EnableSafeOverflowForRequests}
use Rattle.iox_describe_settings.specs.declared.static_config.request_response.Setting.TheVariants.{EnableSafeOverflowForResponses}
use Rattle.iox_describe_settings.specs.declared.static_config.request_response.Setting.TheVariants.{MaxActiveRequestsPerClient}
use Rattle.iox_describe_settings.specs.declared.static_config.request_response.Setting.TheVariants.{MaxBorrowedResponsesPerPendingResponse}
use Rattle.iox_describe_settings.specs.declared.static_config.request_response.Setting.TheVariants.{MaxClients, MaxLoanedRequests}
use Rattle.iox_describe_settings.specs.declared.static_config.request_response.Setting.TheVariants.{MaxNodes, MaxResponseBufferSize}
use Rattle.iox_describe_settings.specs.declared.static_config.request_response.Setting.TheVariants.{MaxServers, RequestTypes}
use Rattle.iox_describe_settings.specs.declared.static_config.request_response.Setting.TheVariants.{ResponseTypes}
use Rattle.iox_describe_settings.specs.declared.static_config.request_response.StaticConfig.{StaticConfig}

-- All settings, in rising order of their keys.
abbrev pub all : List Setting
all =
    EnableFireAndForgetRequests
    ∷ EnableSafeOverflowForRequests
    ∷ EnableSafeOverflowForResponses
    ∷ MaxActiveRequestsPerClient
    ∷ MaxBorrowedResponsesPerPendingResponse
    ∷ MaxClients
    ∷ MaxLoanedRequests
    ∷ MaxNodes
    ∷ MaxResponseBufferSize
    ∷ MaxServers
    ∷ RequestTypes
    ∷ ResponseTypes
    ∷ []

-- The key of each setting.
abbrev pub key : Setting → List ℕ
key EnableFireAndForgetRequests = codes "enable_fire_and_forget_requests"
key EnableSafeOverflowForRequests = codes "enable_safe_overflow_for_requests"
key EnableSafeOverflowForResponses = codes "enable_safe_overflow_for_responses"
key MaxActiveRequestsPerClient = codes "max_active_requests_per_client"
key MaxBorrowedResponsesPerPendingResponse = codes "max_borrowed_responses_per_pending_response"
key MaxClients = codes "max_clients"
key MaxLoanedRequests = codes "max_loaned_requests"
key MaxNodes = codes "max_nodes"
key MaxResponseBufferSize = codes "max_response_buffer_size"
key MaxServers = codes "max_servers"
key RequestTypes = codes "request_types"
key ResponseTypes = codes "response_types"

-- The value of each setting.
abbrev pub value : Setting → StaticConfig → SettingValue
value EnableFireAndForgetRequests c = Switch c.enable_fire_and_forget_requests
value EnableSafeOverflowForRequests c = Switch c.enable_safe_overflow_for_requests
value EnableSafeOverflowForResponses c = Switch c.enable_safe_overflow_for_responses
value MaxActiveRequestsPerClient c = Number c.max_active_requests_per_client
value MaxBorrowedResponsesPerPendingResponse c = Number c.max_borrowed_responses_per_pending_response
value MaxClients c = Number c.max_clients
value MaxLoanedRequests c = Number c.max_loaned_requests
value MaxNodes c = Number c.max_nodes
value MaxResponseBufferSize c = Number c.max_response_buffer_size
value MaxServers c = Number c.max_servers
value RequestTypes c = Types c.request_types
value ResponseTypes c = Types c.response_types

-- The configuration after a setting is changed to a value of its kind.
abbrev pub changed : Setting → SettingValue → StaticConfig → StaticConfig
changed EnableFireAndForgetRequests (Switch switch) c = record c { enable_fire_and_forget_requests = switch }
changed EnableSafeOverflowForRequests (Switch switch) c = record c { enable_safe_overflow_for_requests = switch }
changed EnableSafeOverflowForResponses (Switch switch) c = record c { enable_safe_overflow_for_responses = switch }
changed MaxActiveRequestsPerClient (Number number) c = record c { max_active_requests_per_client = number }
changed MaxBorrowedResponsesPerPendingResponse (Number number) c = record c { max_borrowed_responses_per_pending_response = number }
changed MaxClients (Number number) c = record c { max_clients = number }
changed MaxLoanedRequests (Number number) c = record c { max_loaned_requests = number }
changed MaxNodes (Number number) c = record c { max_nodes = number }
changed MaxResponseBufferSize (Number number) c = record c { max_response_buffer_size = number }
changed MaxServers (Number number) c = record c { max_servers = number }
changed RequestTypes (Types types) c = record c { request_types = types }
changed ResponseTypes (Types types) c = record c { response_types = types }
changed other value c = c

-- The rule of each setting: its default, and for a number also the least value, and the limit below which it must be.
abbrev pub rule : Setting → Rule
rule EnableFireAndForgetRequests = switch true
rule EnableSafeOverflowForRequests = switch true
rule EnableSafeOverflowForResponses = switch true
rule MaxActiveRequestsPerClient = number 4 1 None
rule MaxBorrowedResponsesPerPendingResponse = number 2 1 None
rule MaxClients = number 8 1 None
rule MaxLoanedRequests = number 2 1 None
rule MaxNodes = number 20 1 (Some (2 ^ 24))
rule MaxResponseBufferSize = number 2 1 None
rule MaxServers = number 2 1 None
rule RequestTypes = types_rule
rule ResponseTypes = types_rule

-- Settings that are all 0 or false, except for the types.
abbrev pub unset : MessageTypeDetails → MessageTypeDetails → StaticConfig
unset request_types response_types = record {
  enable_fire_and_forget_requests = false;
  enable_safe_overflow_for_requests = false;
  enable_safe_overflow_for_responses = false;
  max_active_requests_per_client = 0;
  max_borrowed_responses_per_pending_response = 0;
  max_clients = 0;
  max_loaned_requests = 0;
  max_nodes = 0;
  max_response_buffer_size = 0;
  max_servers = 0;
  request_types = request_types;
  response_types = response_types;
}

-- The settings if nothing is asked.
abbrev pub defaults : MessageTypeDetails → MessageTypeDetails → StaticConfig
defaults request_types response_types = defaulted rule changed all (unset request_types response_types)

-- The settings with which a service is created: a number that is too small becomes the least possible one.
abbrev pub adjusted : StaticConfig → StaticConfig
adjusted c = adjusted_settings rule value changed all c

-- Each number is within its limits.
abbrev pub IsWithinLimits : StaticConfig → Type 0
IsWithinLimits c = AreAllowed rule value all c
