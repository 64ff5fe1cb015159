-- Rounds of a call, and those of the machine.
use Rattle.std.proofs.Common.{◌≡◌, ℕ, zero, suc, ◌+◌, ◌-◌, ◌<◌, List, [], ◌++◌, Option, None, Some, Result, Err, IfOk, refl, sym, subst}
use Rattle.std.proofs.Common.{◌⊎◌, inl, inr, arith}
use Rattle.iox_command.specs.NegotiateBase.DescribeBase.declared.message_type.MessageTypeDetails.{MessageTypeDetails}
use Rattle.iox_command.specs.NegotiateBase.DescribeBase.declared.pattern.MessagingPattern.{MessagingPattern}
use Rattle.iox_command.specs.declared.step.StepBefore.{StepBefore}
use Rattle.iox_machine.specs.Negotiation as machine
use Rattle.iox_machine.specs.Negotiation.{Call, Answer}
use Rattle.iox_negotiate.proofs.Stepping.{went-split}
use Rattle.iox_negotiate_machine.proofs.Acting.{OwnHash}
use Rattle.iox_negotiate_machine.proofs.Preceding.{Ends, UnderWay}
use Rattle.iox_negotiate_machine.specs.CallLaws.{HasFewFactories, HaveStepForms, IsServiceIn, newness_of}
use Rattle.iox_negotiate_table.specs.Contents.{Contents}
use Rattle.iox_negotiate_table.specs.NegotiateBase.Access.{Access}
use Rattle.iox_negotiate_table.specs.NegotiateBase.Runs.{Led, Rounds, Went}
use Rattle.iox_negotiate_table.specs.NegotiateBase.declared.request.Opened.{Opened}
use Rattle.iox_negotiate_table.specs.Stepped.{Steps, SteppedSight}

-- whether what a round opened or created is new, or why it did not; it may come to no answer
abbrev pub round_answer : {F : Type 0} → Option (Result Opened F) → Answer F
round_answer None = None
round_answer (Some result) = Some (newness_of result)

-- twice as many
abbrev pub twice : ℕ → ℕ
twice zero = 0
twice (suc count) = 1 + (1 + twice count)

module _ (types : MessageTypeDetails) (pattern : MessagingPattern) (name : List ℕ) (own : OwnHash pattern name) (steps : List StepBefore)
    (form : HaveStepForms types name steps) (old : Contents) (taken : List ℕ)
    (node : ℕ) (F : Type 0) where
  abbrev Under : ℕ → ℕ → Steps → Call → Type 0
  Under left locks now call = UnderWay types pattern name own steps form old taken left locks now.table now.lists call

  -- What follows a round: the next one, or the service of the phase then, or a refusal.
  abbrev pub Next : ℕ → ℕ → Steps → Call → List ℕ → Option (Result Opened F) → Type 0
  Next left locks end after more None = Under left locks end after × HasFewFactories node after.phase
  Next left locks end after more (Some result) = IfOk result (λ service. IsServiceIn node pattern name after.phase (more ++ taken) service)

  -- A round represents a round of the machine.
  abbrev pub Round : (Call → Answer F → Call → Type 0) → ℕ → ℕ → Call → Option (Result Opened F) → Steps → Type 0
  Round Goes left locks call came end =
      (after : Call) × Goes call (round_answer came) after × (ends : Ends pattern name old taken end.table after.phase)
      × Next left locks end after ends.more came

  -- numbers are left for n locks
  module _ (Makes : List Access → Option (Result Opened F) → Type 0) (Goes : Call → Answer F → Call → Type 0) (exhausted : F)
      (locks : ℕ)
      (one : (left : ℕ) (made : List Access) (came : Option (Result Opened F)) (call : Call) (start end : Steps)
      → Under (1 + (1 + left)) locks start call → HasFewFactories node call.phase → Makes made came
      → Went SteppedSight start made end
      → Round Goes left locks call came end) where
    -- Rounds that continue represent rounds of the machine.
    abbrev LedOn : ℕ → ℕ → Call → Steps → Type 0
    LedOn total left call mid =
        (after : Call) × Under (twice left) locks mid after × HasFewFactories node after.phase
        × ((answer : Answer F) (end : Call) → machine.Rounds Goes exhausted left after answer end
        → machine.Rounds Goes exhausted total call answer end)

    led-on : (count left total : ℕ) (made : List Access) (call : Call) (start mid : Steps) → total ≡ count + left
        → Under (twice total) locks start call → HasFewFactories node call.phase → Led Makes count made
        → Went SteppedSight start made mid
        → LedOn total left call mid
    led-on zero left total made call start mid total_is under few led went =
        let same : total ≡ left = omega (arith, total_is) in
        subst (λ (n : ℕ). LedOn total n call mid) same (
          call,
          subst (λ (s : Steps). Under (twice total) locks s call)
              (sym (subst (λ (l : List Access). Went SteppedSight start l mid) led went)) under,
          few,
          λ answer end goes. goes,
        )
    led-on (suc count) left total made call start mid total_is under few (before, last, made_is, led, leads) went =
        let split = went-split SteppedSight before last start mid
        (subst (λ (l : List Access). Went SteppedSight start l mid) made_is went) in
        let first : LedOn total (suc left) call split.0 =
        led-on count (suc left) total before call start split.0 (omega (arith, total_is)) under few led split.1 in
        let next : Round Goes (twice left) locks first.0 None mid =
        one (twice left) last None first.0 split.0 mid first.1 first.2 leads split.2 in
        (next.0, next.3.0, next.3.1, (λ answer end goes. first.3 answer end (next.0, None, next.1, goes)))

    -- The result of the rounds is that of the machine's rounds.
    abbrev pub AllRounds : ℕ → Call → Result Opened F → Steps → Type 0
    AllRounds count call result end =
        (after : Call) × machine.Rounds Goes exhausted count call (Some (newness_of result)) after
        × (ends : Ends pattern name old taken end.table after.phase)
        × IfOk result (λ service. IsServiceIn node pattern name after.phase (ends.more ++ taken) service)

    ends-so : (left : ℕ) (last : List Access) (result : Result Opened F) (call : Call) (mid end : Steps)
        → LedOn 5 (suc left) call mid → Makes last (Some result) → Went SteppedSight mid last end → AllRounds 5 call result end
    ends-so left last result call mid end first makes went =
        let next : Round Goes (twice left) locks first.0 (Some result) end =
        one (twice left) last (Some result) first.0 mid end first.1 first.2 makes went in
        (next.0, first.3 (Some (newness_of result)) next.0 (next.0, Some (newness_of result), next.1, (refl, refl)), next.2, next.3)

    exhausts : (result : Result Opened F) (call : Call) (mid end : Steps) → LedOn 5 0 call mid → result ≡ Err exhausted → end ≡ mid
        → AllRounds 5 call result end
    exhausts result call mid end first is same =
        subst (λ (r : Result Opened F). AllRounds 5 call r end) (sym is)
        (subst (λ (s : Steps). AllRounds 5 call (Err exhausted) s) (sym same) (
          first.0,
          first.3 (Some (Err exhausted)) first.0 (refl, refl),
          first.1.ends,
          tt,
        ))

    pub all-rounds : (made : List Access) (result : Result Opened F) (call : Call) (start end : Steps) → Under 10 locks start call
        → HasFewFactories node call.phase → Rounds Makes (Err exhausted) made result → Went SteppedSight start made end
        → AllRounds 5 call result end
    all-rounds made result call start end under few rounds went = there rounds.ends
      where
        split : (mid : Steps) × Went SteppedSight start rounds.before mid × Went SteppedSight mid rounds.last end
        split = went-split SteppedSight rounds.before rounds.last start end
            (subst (λ (l : List Access). Went SteppedSight start l end) rounds.all went)

        led : (left : ℕ) → 5 ≡ rounds.count + left → LedOn 5 left call split.0
        led left total = led-on rounds.count left 5 rounds.before call start split.0 total under few rounds.led split.1

        there : ((rounds.count < 5) × Makes rounds.last (Some result))
            ⊎ ((rounds.count ≡ 5) × (rounds.last ≡ []) × (result ≡ Err exhausted))
            → AllRounds 5 call result end
        there (inl (less, makes)) =
            let total : 5 ≡ rounds.count + suc (4 - rounds.count) = omega (arith, less) in
            ends-so (4 - rounds.count) rounds.last result call split.0 end (led (suc (4 - rounds.count)) total) makes split.2
        there (inr (all, none, is)) =
            exhausts result call split.0 end (led 0 (omega (arith, all))) is
            (subst (λ (l : List Access). Went SteppedSight split.0 l end) none split.2)
