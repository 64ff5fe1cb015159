-- What errors display as: the type's name, `::` and the variant's name; the name of an inner variant follows in parentheses, at
-- any depth.
use Rattle.std.specs.Prelude.{ℕ, List, ◌++◌, codes}
use Rattle.iox_domain_values.specs.declared.connection_failure.ZeroCopyCreationError.{ZeroCopyCreationError}
use Rattle.iox_domain_values.specs.declared.connection_failure.ZeroCopyCreationError.TheVariants as zero_copy
use Rattle.iox_domain_values.specs.declared.connection_failure.ConnectionFailure.{ConnectionFailure}
use Rattle.iox_domain_values.specs.declared.connection_failure.ConnectionFailure.TheVariants as connection
use Rattle.iox_domain_values.specs.declared.port_error.LoanError.{LoanError}
use Rattle.iox_domain_values.specs.declared.port_error.LoanError.TheVariants as loan
use Rattle.iox_domain_values.specs.declared.port_error.SendError.{SendError}
use Rattle.iox_domain_values.specs.declared.port_error.SendError.TheVariants as sending
use Rattle.iox_domain_values.specs.declared.port_error.ReceiveError.{ReceiveError}
use Rattle.iox_domain_values.specs.declared.port_error.ReceiveError.TheVariants as receiving
use Rattle.iox_domain_values.specs.declared.create_error.PublisherCreateError.{PublisherCreateError}
use Rattle.iox_domain_values.specs.declared.create_error.PublisherCreateError.TheVariants as publisher
use Rattle.iox_domain_values.specs.declared.create_error.SubscriberCreateError.{SubscriberCreateError}
use Rattle.iox_domain_values.specs.declared.create_error.SubscriberCreateError.TheVariants as subscriber
use Rattle.iox_domain_values.specs.declared.create_error.DomainError.{DomainError}
use Rattle.iox_domain_values.specs.declared.create_error.DomainError.TheVariants as domain

-- The name of the variant.
abbrev pub zero_copy_creation_name : ZeroCopyCreationError → List ℕ
zero_copy_creation_name zero_copy.OutOfMemory = codes "OutOfMemory"
zero_copy_creation_name zero_copy.ExpiredConnectionBufferFull = codes "ExpiredConnectionBufferFull"
zero_copy_creation_name zero_copy.IncompatibleBufferSize = codes "IncompatibleBufferSize"

-- The name of the variant, with that of an inner variant in parentheses.
abbrev pub connection_name : ConnectionFailure → List ℕ
connection_name (connection.FailedToEstablishConnection inner) = codes "FailedToEstablishConnection(" ++ zero_copy_creation_name inner
    ++ codes ")"
connection_name connection.UnableToMapSendersDataSegment = codes "UnableToMapSendersDataSegment"

-- The name of the variant.
abbrev pub loan_name : LoanError → List ℕ
loan_name loan.OutOfMemory = codes "OutOfMemory"
loan_name loan.ExceedsMaxLoans = codes "ExceedsMaxLoans"
loan_name loan.ExceedsMaxLoanSize = codes "ExceedsMaxLoanSize"
loan_name loan.InternalFailure = codes "InternalFailure"

-- The name of the variant, with that of an inner variant in parentheses.
abbrev pub send_name : SendError → List ℕ
send_name sending.ConnectionBrokenSinceSenderNoLongerExists = codes "ConnectionBrokenSinceSenderNoLongerExists"
send_name sending.ConnectionCorrupted = codes "ConnectionCorrupted"
send_name (sending.LoanError inner) = codes "LoanError(" ++ loan_name inner ++ codes ")"
send_name (sending.ConnectionError inner) = codes "ConnectionError(" ++ connection_name inner ++ codes ")"
send_name sending.UnableToDeliver = codes "UnableToDeliver"
send_name sending.InternalError = codes "InternalError"

-- The name of the variant, with that of an inner variant in parentheses.
abbrev pub receive_name : ReceiveError → List ℕ
receive_name receiving.ExceedsMaxBorrows = codes "ExceedsMaxBorrows"
receive_name (receiving.ConnectionFailure inner) = codes "ConnectionFailure(" ++ connection_name inner ++ codes ")"

-- The name of the variant.
abbrev pub publisher_create_name : PublisherCreateError → List ℕ
publisher_create_name publisher.ExceedsMaxSupportedPublishers = codes "ExceedsMaxSupportedPublishers"
publisher_create_name publisher.UnableToCreateDataSegment = codes "UnableToCreateDataSegment"
publisher_create_name publisher.FailedToDeployThreadsafetyPolicy = codes "FailedToDeployThreadsafetyPolicy"
publisher_create_name publisher.UnableToCreatePortTag = codes "UnableToCreatePortTag"

-- The name of the variant.
abbrev pub subscriber_create_name : SubscriberCreateError → List ℕ
subscriber_create_name subscriber.ExceedsMaxSupportedSubscribers = codes "ExceedsMaxSupportedSubscribers"
subscriber_create_name subscriber.BufferSizeExceedsMaxSupportedBufferSizeOfService
    = codes "BufferSizeExceedsMaxSupportedBufferSizeOfService"
subscriber_create_name subscriber.FailedToDeployThreadsafetyPolicy = codes "FailedToDeployThreadsafetyPolicy"
subscriber_create_name subscriber.UnableToCreatePortTag = codes "UnableToCreatePortTag"
subscriber_create_name subscriber.OutOfMemory = codes "OutOfMemory"

-- The name of the variant.
abbrev pub domain_name : DomainError → List ℕ
domain_name domain.OutOfMemory = codes "OutOfMemory"

-- The type's name, `::` and the name of the variant.
abbrev pub zero_copy_creation_text : ZeroCopyCreationError → List ℕ
zero_copy_creation_text error = codes "ZeroCopyCreationError::" ++ zero_copy_creation_name error

-- The type's name, `::` and the name of the variant.
abbrev pub connection_text : ConnectionFailure → List ℕ
connection_text error = codes "ConnectionFailure::" ++ connection_name error

-- The type's name, `::` and the name of the variant.
abbrev pub loan_text : LoanError → List ℕ
loan_text error = codes "LoanError::" ++ loan_name error

-- The type's name, `::` and the name of the variant.
abbrev pub send_text : SendError → List ℕ
send_text error = codes "SendError::" ++ send_name error

-- The type's name, `::` and the name of the variant.
abbrev pub receive_text : ReceiveError → List ℕ
receive_text error = codes "ReceiveError::" ++ receive_name error

-- The type's name, `::` and the name of the variant.
abbrev pub publisher_create_text : PublisherCreateError → List ℕ
publisher_create_text error = codes "PublisherCreateError::" ++ publisher_create_name error

-- The type's name, `::` and the name of the variant.
abbrev pub subscriber_create_text : SubscriberCreateError → List ℕ
subscriber_create_text error = codes "SubscriberCreateError::" ++ subscriber_create_name error

-- The type's name, `::` and the name of the variant.
abbrev pub domain_text : DomainError → List ℕ
domain_text error = codes "DomainError::" ++ domain_name error
