-- What a builder does is a call whose agreement is within the limits.
use Rattle.std.proofs.Common.{ℕ, refl}
use Rattle.iox_negotiate.specs.Built.{BuildersMakeCalls}

pub builders-make-calls : {C : Type 0} (limits too_long : C → Type 0) (V : ℕ → Type 0) (E : Type 0) → BuildersMakeCalls limits too_long V E
builders-make-calls limits too_long V E = record {
  creates = λ storage node agreed config error lists old new result creates. (
    creates.refusal,
    creates.negotiated.answer,
    record { within = creates.within; goes = (lists, new, creates.negotiated.done, refl); told = creates.negotiated.told },
  );
  opens = λ kind storage node hash verdict error lists old new result opens. (
    opens.answer,
    record { within = tt; goes = (lists, new, opens.done, refl); told = opens.told },
  );
  does_either = λ kind storage node verdict agreed config error lists old new result either. (
    either.refusal,
    either.negotiated.answer,
    record { within = either.within; goes = (lists, new, either.negotiated.done, refl); told = either.negotiated.told },
  );
}
