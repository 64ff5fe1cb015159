-- A message is what a subscriber read of its sample.
use Rattle.std.proofs.Common.{ℕ, ◌≡◌, Bool, true, List, Option, None, Some, subst}
use Rattle.std.specs.Prelude.{IfSome}
use Rattle.iox_lanes_threads_ports.specs.Holding.{HasRead, StandsBetween}
use Rattle.iox_lanes_threads_ports.specs.Values.{Reads}
use Rattle.iox_lanes.specs.HeldByNone.{StandsInSlot}
use Rattle.iox_lanes.specs.Typed.{TypedSubscriber, Token, is_sample_of}
use Rattle.iox_lanes.specs.TypedReads.{IsMessage, ReadsMessage}
use Rattle.iox_lanes.specs.declared.threads.message.Message.{Message}

pub read_whole : {T U : Type 0} (value_of : List ℕ → T) (header_of : List ℕ → U) (payload_count header_count : ℕ)
    (old new : TypedSubscriber) (sample : Token) (slot : ℕ) (done : Bool) (words : List ℕ) (result : Option (Message T U))
    → is_sample_of old sample ≡ true → slot ≡ sample.slot → done ≡ true → Reads old.port.own slot new.port.own done
    → StandsBetween old.port.own
    → HasRead new.port.own.port old.port.own.lane.port.extent slot new.port.own.words
    → StandsInSlot new.port.own.port old.port.own.lane.port.extent slot new.port.own.words
    → words ≡ new.port.own.words
    → IfSome result (IsMessage value_of header_of payload_count header_count words)
    → IfSome result (ReadsMessage value_of header_of payload_count header_count old sample new)
read_whole value_of header_of payload_count header_count old new sample slot done words None mine at is call stood has stands same some =
    some
read_whole value_of header_of payload_count header_count old new sample slot done words (Some message) mine at is call stood has stands same
    some =
    record {
      mine = mine;
      call = subst (λ (n : ℕ). Reads old.port.own n new.port.own true) at (subst (Reads old.port.own slot new.port.own) is call);
      stood = stood;
      has_read = subst (λ (n : ℕ). HasRead new.port.own.port old.port.own.lane.port.extent n new.port.own.words) at has;
      stands = subst (λ (n : ℕ). StandsInSlot new.port.own.port old.port.own.lane.port.extent n new.port.own.words) at stands;
      message_is = subst (λ (ws : List ℕ). IsMessage value_of header_of payload_count header_count ws message) same some;
    }
