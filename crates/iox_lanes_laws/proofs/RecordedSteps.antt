-- Steps of lanes that keep messages, by those of the lanes.
use Rattle.std.proofs.Common.{◌≡◌, ◌++◌, if◌then◌else◌, Bool, true, false, List, [], ◌∷◌, sym, ◌∙◌, ap}
use Rattle.std.proofs.Common.{append-nil, inl}
use Rattle.iox_lanes_machine.specs.QueuesSteps.declared.schedule.Stepped.{Stepped}
use Rattle.iox_lanes_machine.specs.QueuesSteps.declared.schedule.Stepped.TheVariants as stepped
use Rattle.iox_lanes_machine.specs.LanesParties.declared.call.Move.{Move}
use Rattle.iox_lanes_machine.specs.LanesParties.declared.call.Move.TheVariants.{Begin, GoOn}
use Rattle.iox_lanes_machine.specs.LanesParties.declared.call.Party.{Party}
use Rattle.iox_lanes_machine.specs.LanesParties.declared.call.Party.TheVariants.{Publisher, Subscriber}
use Rattle.iox_lanes_machine.specs.World.{World, Records, StepsTo, fits}
use Rattle.iox_lanes_laws.specs.Messages.{MessageState, begun_messages}
use Rattle.iox_lanes_laws.specs.Recorded.{RecordState, RecordsTo}

-- none begins at a step that fits, if none is begun
none_begun : (b : Bool) (begun : List MessageState) → b ≡ true → (if b then begun else []) ≡ [] → begun ≡ []
none_begun true begun fit h = h
none_begun false begun fit h = absurd (cc fit)

-- a step of the lanes that begins no send, by which no message is kept
pub keeps_none : (r : RecordState) (party : Party) (step : Move) (answer : Stepped) (lanes : World)
    → StepsTo r.lanes party step answer lanes → (if fits r.lanes party step then begun_messages r.lanes party step else []) ≡ []
    → RecordsTo r party step answer (record r { lanes = lanes })
keeps_none r party step stepped.Went lanes h none = (
  h,
  sym (append-nil r.messages) ∙ ap (λ (ms : List MessageState). r.messages ++ ms)
      (sym (none_begun (fits r.lanes party step) (begun_messages r.lanes party step) h.0 none)),
)
keeps_none r party step stepped.Finished lanes h none = (
  h,
  sym (append-nil r.messages) ∙ ap (λ (ms : List MessageState). r.messages ++ ms)
      (sym (none_begun (fits r.lanes party step) (begun_messages r.lanes party step) h.0 none)),
)
keeps_none r party step stepped.Skipped lanes h none = (h.0, ap (λ (x : World). record r { lanes = x }) h.1)
keeps_none r party step stepped.NoMemory lanes h none = (h.0, inl h.1, ap (λ (x : World). record r { lanes = x }) h.2)

-- where a send begins, the lanes record nothing
records_none : (m : World) (party : Party) (step : Move) (message : MessageState) → begun_messages m party step ≡ message ∷ []
    → Records m party step → ⊥
records_none m (Publisher place) (Begin c) message begun h = h
records_none m (Publisher place) GoOn message begun h = absurd (cc begun)
records_none m (Subscriber place) step message begun h = absurd (cc begun)

-- a step of the lanes that fits and begins a send, by which its message is kept
pub keeps_one : (r : RecordState) (party : Party) (step : Move) (answer : Stepped) (lanes : World) (message : MessageState)
    → StepsTo r.lanes party step answer lanes → fits r.lanes party step ≡ true → begun_messages r.lanes party step ≡ message ∷ []
    → RecordsTo r party step answer (record { lanes = lanes; messages = r.messages ++ message ∷ [] })
keeps_one r party step stepped.Went lanes message h fit begun = (h, ap (λ (ms : List MessageState). r.messages ++ ms) (sym begun))
keeps_one r party step stepped.Finished lanes message h fit begun = (h, ap (λ (ms : List MessageState). r.messages ++ ms) (sym begun))
keeps_one r party step stepped.Skipped lanes message h fit begun = absurd (cc (sym fit ∙ h.0))
keeps_one r party step stepped.NoMemory lanes message h fit begun = absurd (records_none r.lanes party step message begun h.1)
