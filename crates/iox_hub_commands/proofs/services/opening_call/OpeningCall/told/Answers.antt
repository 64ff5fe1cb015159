use Rattle.iox_hub_commands.proofs.services.opening_call.OpeningCall.told.Goals as goal

pub returns-in-Create : goal.returns-in-Create
returns-in-Create g c = rw c.in-Create.is (c.uncreated.result, c.uncreated.ensures, c.create_told.ensures)

pub returns-in-Open : goal.returns-in-Open
returns-in-Open g c = rw c.in-Open.is c.open_told.ensures

pub returns-in-OpenOrCreate : goal.returns-in-OpenOrCreate
returns-in-OpenOrCreate g c = rw c.in-OpenOrCreate.is (
  c.uncreated-in-OpenOrCreate.result,
  c.uncreated-in-OpenOrCreate.ensures,
  c.either_told.ensures,
)
