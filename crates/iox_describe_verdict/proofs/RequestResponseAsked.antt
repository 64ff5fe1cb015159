-- What is asked, field by field.
use Rattle.std.proofs.Common.{◌≡◌, ℕ, Bool, Option, Some, None, refl, ap, ◌∙◌}
use Rattle.std.specs.Prelude.{option_map, unwrap_or}
use Rattle.iox_describe_settings.specs.declared.setting.SettingValue.TheVariants as value
use Rattle.iox_describe_settings.specs.declared.static_config.request_response.Setting.TheVariants.{EnableFireAndForgetRequests}
use Rattle.iox_describe_settings.specs.declared.static_config.request_response.Setting.TheVariants.{EnableSafeOverflowForRequests}
use Rattle.iox_describe_settings.specs.declared.static_config.request_response.Setting.TheVariants.{EnableSafeOverflowForResponses}
use Rattle.iox_describe_settings.specs.declared.static_config.request_response.Setting.TheVariants.{MaxActiveRequestsPerClient}
use Rattle.iox_describe_settings.specs.declared.static_config.request_response.Setting.TheVariants.{MaxBorrowedResponsesPerPendingResponse}
use Rattle.iox_describe_settings.specs.declared.static_config.request_response.Setting.TheVariants.{MaxClients, MaxLoanedRequests}
use Rattle.iox_describe_settings.specs.declared.static_config.request_response.Setting.TheVariants.{MaxNodes, MaxResponseBufferSize}
use Rattle.iox_describe_settings.specs.declared.static_config.request_response.Setting.TheVariants.{MaxServers}
use Rattle.iox_describe_settings.specs.declared.static_config.request_response.StaticConfig.{StaticConfig}
use Rattle.iox_describe_settings.specs.Setting.{changed_to}
use Rattle.iox_describe_settings.specs.RequestResponseSettings.{changed, defaults}
use Rattle.iox_describe_verdict.specs.declared.requirement.request_response.Requirement.{Requirement}
use Rattle.iox_describe_verdict.specs.RequestResponseClauses.{asked, asked_fields}

enable_fire_and_forget_requests : (o : Option Bool) (c : StaticConfig)
    → changed_to changed EnableFireAndForgetRequests (option_map value.Switch o) c
    ≡ record c { enable_fire_and_forget_requests = unwrap_or o c.enable_fire_and_forget_requests }
enable_fire_and_forget_requests None c = refl
enable_fire_and_forget_requests (Some x) c = refl

enable_safe_overflow_for_requests : (o : Option Bool) (c : StaticConfig)
    → changed_to changed EnableSafeOverflowForRequests (option_map value.Switch o) c
    ≡ record c { enable_safe_overflow_for_requests = unwrap_or o c.enable_safe_overflow_for_requests }
enable_safe_overflow_for_requests None c = refl
enable_safe_overflow_for_requests (Some x) c = refl

enable_safe_overflow_for_responses : (o : Option Bool) (c : StaticConfig)
    → changed_to changed EnableSafeOverflowForResponses (option_map value.Switch o) c
    ≡ record c { enable_safe_overflow_for_responses = unwrap_or o c.enable_safe_overflow_for_responses }
enable_safe_overflow_for_responses None c = refl
enable_safe_overflow_for_responses (Some x) c = refl

max_active_requests_per_client : (o : Option ℕ) (c : StaticConfig)
    → changed_to changed MaxActiveRequestsPerClient (option_map value.Number o) c
    ≡ record c { max_active_requests_per_client = unwrap_or o c.max_active_requests_per_client }
max_active_requests_per_client None c = refl
max_active_requests_per_client (Some x) c = refl

max_borrowed_responses_per_pending_response : (o : Option ℕ) (c : StaticConfig)
    → changed_to changed MaxBorrowedResponsesPerPendingResponse (option_map value.Number o) c
    ≡ record c { max_borrowed_responses_per_pending_response = unwrap_or o c.max_borrowed_responses_per_pending_response }
max_borrowed_responses_per_pending_response None c = refl
max_borrowed_responses_per_pending_response (Some x) c = refl

max_clients : (o : Option ℕ) (c : StaticConfig)
    → changed_to changed MaxClients (option_map value.Number o) c ≡ record c { max_clients = unwrap_or o c.max_clients }
max_clients None c = refl
max_clients (Some x) c = refl

max_loaned_requests : (o : Option ℕ) (c : StaticConfig)
    → changed_to changed MaxLoanedRequests (option_map value.Number o) c
    ≡ record c { max_loaned_requests = unwrap_or o c.max_loaned_requests }
max_loaned_requests None c = refl
max_loaned_requests (Some x) c = refl

max_nodes : (o : Option ℕ) (c : StaticConfig)
    → changed_to changed MaxNodes (option_map value.Number o) c ≡ record c { max_nodes = unwrap_or o c.max_nodes }
max_nodes None c = refl
max_nodes (Some x) c = refl

max_response_buffer_size : (o : Option ℕ) (c : StaticConfig)
    → changed_to changed MaxResponseBufferSize (option_map value.Number o) c
    ≡ record c { max_response_buffer_size = unwrap_or o c.max_response_buffer_size }
max_response_buffer_size None c = refl
max_response_buffer_size (Some x) c = refl

max_servers : (o : Option ℕ) (c : StaticConfig)
    → changed_to changed MaxServers (option_map value.Number o) c ≡ record c { max_servers = unwrap_or o c.max_servers }
max_servers None c = refl
max_servers (Some x) c = refl

abbrev after_1 : Requirement → StaticConfig
after_1 r = record ((defaults r.request_types r.response_types)) {
  enable_fire_and_forget_requests
      = unwrap_or r.enable_fire_and_forget_requests ((defaults r.request_types r.response_types)).enable_fire_and_forget_requests;
}

abbrev after_2 : Requirement → StaticConfig
after_2 r = record (after_1 r)
    { enable_safe_overflow_for_requests = unwrap_or r.enable_safe_overflow_for_requests (after_1 r).enable_safe_overflow_for_requests }

abbrev after_3 : Requirement → StaticConfig
after_3 r = record (after_2 r)
    { enable_safe_overflow_for_responses = unwrap_or r.enable_safe_overflow_for_responses (after_2 r).enable_safe_overflow_for_responses }

abbrev after_4 : Requirement → StaticConfig
after_4 r = record (after_3 r)
    { max_active_requests_per_client = unwrap_or r.max_active_requests_per_client (after_3 r).max_active_requests_per_client }

abbrev after_5 : Requirement → StaticConfig
after_5 r = record (after_4 r) {
  max_borrowed_responses_per_pending_response
      = unwrap_or r.max_borrowed_responses_per_pending_response (after_4 r).max_borrowed_responses_per_pending_response;
}

abbrev after_6 : Requirement → StaticConfig
after_6 r = record (after_5 r) { max_clients = unwrap_or r.max_clients (after_5 r).max_clients }

abbrev after_7 : Requirement → StaticConfig
after_7 r = record (after_6 r) { max_loaned_requests = unwrap_or r.max_loaned_requests (after_6 r).max_loaned_requests }

abbrev after_8 : Requirement → StaticConfig
after_8 r = record (after_7 r) { max_nodes = unwrap_or r.max_nodes (after_7 r).max_nodes }

abbrev after_9 : Requirement → StaticConfig
after_9 r = record (after_8 r) { max_response_buffer_size = unwrap_or r.max_response_buffer_size (after_8 r).max_response_buffer_size }

abbrev after_10 : Requirement → StaticConfig
after_10 r = record (after_9 r) { max_servers = unwrap_or r.max_servers (after_9 r).max_servers }

pub fields : (r : Requirement) → asked r ≡ asked_fields r
fields r =
    let p1 = enable_fire_and_forget_requests r.enable_fire_and_forget_requests (defaults r.request_types r.response_types) in
    let p2 = ap (changed_to changed EnableSafeOverflowForRequests (option_map value.Switch r.enable_safe_overflow_for_requests)) p1 ∙
    enable_safe_overflow_for_requests r.enable_safe_overflow_for_requests (after_1 r) in
    let p3 = ap (changed_to changed EnableSafeOverflowForResponses (option_map value.Switch r.enable_safe_overflow_for_responses)) p2 ∙
    enable_safe_overflow_for_responses r.enable_safe_overflow_for_responses (after_2 r) in
    let p4 = ap (changed_to changed MaxActiveRequestsPerClient (option_map value.Number r.max_active_requests_per_client)) p3 ∙
    max_active_requests_per_client r.max_active_requests_per_client (after_3 r) in
    let p5 = ap (changed_to changed MaxBorrowedResponsesPerPendingResponse
    (option_map value.Number r.max_borrowed_responses_per_pending_response)) p4 ∙ max_borrowed_responses_per_pending_response
    r.max_borrowed_responses_per_pending_response (after_4 r) in
    let p6 = ap (changed_to changed MaxClients (option_map value.Number r.max_clients)) p5 ∙ max_clients r.max_clients (after_5 r) in
    let p7 = ap (changed_to changed MaxLoanedRequests (option_map value.Number r.max_loaned_requests)) p6 ∙ max_loaned_requests
    r.max_loaned_requests (after_6 r) in
    let p8 = ap (changed_to changed MaxNodes (option_map value.Number r.max_nodes)) p7 ∙ max_nodes r.max_nodes (after_7 r) in
    let p9 = ap (changed_to changed MaxResponseBufferSize (option_map value.Number r.max_response_buffer_size)) p8 ∙
    max_response_buffer_size r.max_response_buffer_size (after_8 r) in
    let p10 = ap (changed_to changed MaxServers (option_map value.Number r.max_servers)) p9 ∙ max_servers r.max_servers (after_9 r) in
    ap (λ (c : StaticConfig). record c { request_types = r.request_types; response_types = r.response_types }) p10
