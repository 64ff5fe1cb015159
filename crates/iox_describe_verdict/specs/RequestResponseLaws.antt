-- A request-response service that meets a requirement meets every weaker one.
use Rattle.std.proofs.Common.{◌≡◌, List, refl}
use Rattle.std.specs.Prelude.{IsSome}
use Rattle.iox_describe_verdict.specs.Patterns.{request_response_of}
use Rattle.iox_describe_settings.specs.DescribeBase.declared.attribute.Attribute.{Attribute}
use Rattle.iox_describe_verdict.specs.declared.requirement.request_response.Requirement.{Requirement}
use Rattle.iox_describe_settings.specs.declared.static_config.request_response.StaticConfig.{StaticConfig}
use Rattle.iox_describe_settings.specs.declared.static_config.Settings.{Settings}
use Rattle.iox_describe_settings.specs.declared.static_config.Settings.TheVariants.{RequestResponse, PublishSubscribe, Event}
use Rattle.iox_describe_settings.specs.declared.static_config.request_response.Setting.TheVariants.{EnableFireAndForgetRequests}
use Rattle.iox_describe_settings.specs.declared.static_config.request_response.Setting.TheVariants.{EnableSafeOverflowForRequests}
use Rattle.iox_describe_settings.specs.declared.static_config.request_response.Setting.TheVariants.{EnableSafeOverflowForResponses}
use Rattle.iox_describe_settings.specs.declared.static_config.request_response.Setting.TheVariants.{MaxActiveRequestsPerClient}
use Rattle.iox_describe_settings.specs.declared.static_config.request_response.Setting.TheVariants.{MaxBorrowedResponsesPerPendingResponse}
use Rattle.iox_describe_settings.specs.declared.static_config.request_response.Setting.TheVariants.{MaxClients, MaxLoanedRequests}
use Rattle.iox_describe_settings.specs.declared.static_config.request_response.Setting.TheVariants.{MaxNodes, MaxResponseBufferSize}
use Rattle.iox_describe_settings.specs.declared.static_config.request_response.Setting.TheVariants.{MaxServers, RequestTypes}
use Rattle.iox_describe_settings.specs.declared.static_config.request_response.Setting.TheVariants.{ResponseTypes}
use Rattle.iox_describe_settings.specs.RequestResponseSettings.{value}
use Rattle.iox_describe_verdict.specs.Verdict.{first_unmet, unmet_clause}
use Rattle.iox_describe_verdict.specs.RequestResponseClauses.{clauses_on, clauses_of, named, IsWeaker}
use Rattle.iox_describe_verdict.specs.VerdictLemmas.{attributes, met, setting, step}

on : (weak strong : Requirement) (given : List Attribute) (c : StaticConfig) → IsWeaker weak strong
    → first_unmet (clauses_on strong given c) ≡ met → first_unmet (clauses_on weak given c) ≡ met
on weak strong given c h =
    step _ _ _ _ _ (setting (named RequestTypes weak) (named RequestTypes strong) (value RequestTypes c) (h.settings RequestTypes))
    (step _ _ _ _ _ (setting (named ResponseTypes weak) (named ResponseTypes strong) (value ResponseTypes c) (h.settings ResponseTypes))
    (step _ _ _ _ _ (attributes weak.attributes strong.attributes given h.attributes)
    (step _ _ _ _ _ (setting (named EnableSafeOverflowForRequests weak) (named EnableSafeOverflowForRequests strong)
    (value EnableSafeOverflowForRequests c) (h.settings EnableSafeOverflowForRequests))
    (step _ _ _ _ _ (setting (named EnableSafeOverflowForResponses weak) (named EnableSafeOverflowForResponses strong)
    (value EnableSafeOverflowForResponses c) (h.settings EnableSafeOverflowForResponses))
    (step _ _ _ _ _ (setting (named EnableFireAndForgetRequests weak) (named EnableFireAndForgetRequests strong)
    (value EnableFireAndForgetRequests c) (h.settings EnableFireAndForgetRequests))
    (step _ _ _ _ _ (setting (named MaxLoanedRequests weak) (named MaxLoanedRequests strong) (value MaxLoanedRequests c)
    (h.settings MaxLoanedRequests))
    (step _ _ _ _ _ (setting (named MaxActiveRequestsPerClient weak) (named MaxActiveRequestsPerClient strong)
    (value MaxActiveRequestsPerClient c) (h.settings MaxActiveRequestsPerClient))
    (step _ _ _ _ _ (setting (named MaxResponseBufferSize weak) (named MaxResponseBufferSize strong) (value MaxResponseBufferSize c)
    (h.settings MaxResponseBufferSize))
    (step _ _ _ _ _ (setting (named MaxServers weak) (named MaxServers strong) (value MaxServers c) (h.settings MaxServers))
    (step _ _ _ _ _ (setting (named MaxClients weak) (named MaxClients strong) (value MaxClients c) (h.settings MaxClients))
    (step _ _ _ _ _ (setting (named MaxBorrowedResponsesPerPendingResponse weak) (named MaxBorrowedResponsesPerPendingResponse strong)
    (value MaxBorrowedResponsesPerPendingResponse c) (h.settings MaxBorrowedResponsesPerPendingResponse))
    (step _ _ _ _ _ (setting (named MaxNodes weak) (named MaxNodes strong) (value MaxNodes c) (h.settings MaxNodes))
    (λ e. e)))))))))))))

-- A request-response service that meets a requirement meets every weaker one.
pub weaker : (weak strong : Requirement) (given : List Attribute) (settings : Settings) → IsWeaker weak strong
    → first_unmet (clauses_of strong given settings) ≡ met → first_unmet (clauses_of weak given settings) ≡ met
weaker weak strong given (RequestResponse c) h e = step _ _ _ _ _ (λ met. met) (on weak strong given c h) e
weaker weak strong given (PublishSubscribe c) h e = e
weaker weak strong given (Event c) h e = e

-- A service that meets a requirement on request-response services is a request-response service.
pub met_is_of_pattern : (r : Requirement) (given : List Attribute) (settings : Settings)
    → first_unmet (clauses_of r given settings) ≡ met → IsSome (request_response_of settings)
unfolding unmet_clause
met_is_of_pattern r given (RequestResponse c) h = refl
met_is_of_pattern r given (PublishSubscribe c) h = absurd cc
met_is_of_pattern r given (Event c) h = absurd cc
