mod ReceivedOnce
mod HeardBySteps
mod JoinedRuns
