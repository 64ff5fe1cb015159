-- What a refusal displays as: the text of the error within.
use Rattle.std.specs.Prelude.{ℕ, List, ◌++◌, codes}
use Rattle.iox_domain_values.specs.ErrorTexts as domain
use Rattle.iox_negotiate_base.specs.CloseText as close
use Rattle.iox_negotiate_base.specs.EventTexts as event
use Rattle.iox_negotiate_base.specs.PublishSubscribeTexts as publish_subscribe
use Rattle.iox_negotiate_base.specs.RequestResponseTexts as request_response
use Rattle.iox_command.specs.declared.refusal.HubError.{HubError}
use Rattle.iox_command.specs.declared.refusal.HubError.TheVariants as hub
use Rattle.iox_command.specs.declared.refusal.Refusal.{Refusal}
use Rattle.iox_command.specs.declared.refusal.Refusal.TheVariants as refusal

-- The text of a `HubError`: the type's name, `::` and the variant's name.
abbrev pub hub_text : HubError → List ℕ
hub_text hub.OutOfMemory = codes "HubError::OutOfMemory"

-- The text of the error within the refusal.
abbrev pub refusal_text : Refusal → List ℕ
refusal_text (refusal.Hub error) = hub_text error
refusal_text (refusal.PublishSubscribeCreate error) = codes "PublishSubscribeCreateError::" ++ publish_subscribe.create_name error
refusal_text (refusal.PublishSubscribeOpen error) = codes "PublishSubscribeOpenError::" ++ publish_subscribe.open_name error
refusal_text (refusal.PublishSubscribeOpenOrCreate error) = publish_subscribe.open_or_create_text error
refusal_text (refusal.EventCreate error) = codes "EventCreateError::" ++ event.create_name error
refusal_text (refusal.EventOpen error) = codes "EventOpenError::" ++ event.open_name error
refusal_text (refusal.EventOpenOrCreate error) = event.open_or_create_text error
refusal_text (refusal.RequestResponseCreate error) = codes "RequestResponseCreateError::" ++ request_response.create_name error
refusal_text (refusal.RequestResponseOpen error) = codes "RequestResponseOpenError::" ++ request_response.open_name error
refusal_text (refusal.RequestResponseOpenOrCreate error) = request_response.open_or_create_text error
refusal_text (refusal.Close error) = codes "CloseError::" ++ close.close_name error
refusal_text (refusal.Publisher error) = codes "PublisherCreateError::" ++ domain.publisher_create_name error
refusal_text (refusal.Subscriber error) = codes "SubscriberCreateError::" ++ domain.subscriber_create_name error
refusal_text (refusal.Loan error) = codes "LoanError::" ++ domain.loan_name error
refusal_text (refusal.Send error) = codes "SendError::" ++ domain.send_name error
refusal_text (refusal.Receive error) = codes "ReceiveError::" ++ domain.receive_name error
refusal_text (refusal.Connection error) = codes "ConnectionFailure::" ++ domain.connection_name error
