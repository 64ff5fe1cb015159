use Rattle.std.proofs.Common.{◌∙◌, Ok, Err, ap}
use Rattle.iox_hub_commands.proofs.services.opening_call.built.Goals as goal

pub returns-in-Ok : goal.returns-in-Ok
returns-in-Ok g c = λ table after answer numbered. rw c.in-Create.is (
  Ok (c.in-Ok.factory.service.membership, c.in-Ok.factory.owner),
  rw c.builder_in-builder.ensures at c.in-Ok.ensures,
  numbered,
)

pub returns-in-Err : goal.returns-in-Err
returns-in-Err g c = λ table after answer numbered. rw c.in-Create.is (
  Err c.in-Err.error,
  rw c.builder_in-builder.ensures at c.in-Err.ensures,
  (numbered.0 ∙ ap Err c.create_refusal.ensures, numbered.1),
)

pub returns-in-Ok-open_with_attributes_in : goal.returns-in-Ok-open_with_attributes_in
returns-in-Ok-open_with_attributes_in g c = λ table after answer numbered. rw c.in-Open.is (
  Ok (c.in-Ok-open_with_attributes_in.factory.service.membership, c.in-Ok-open_with_attributes_in.factory.owner),
  rw c.builder_in-builder.ensures at c.in-Ok-open_with_attributes_in.ensures,
  numbered,
)

pub returns-in-Err-open_with_attributes_in : goal.returns-in-Err-open_with_attributes_in
returns-in-Err-open_with_attributes_in g c = λ table after answer numbered. rw c.in-Open.is (
  Err c.in-Err-open_with_attributes_in.error,
  rw c.builder_in-builder.ensures at c.in-Err-open_with_attributes_in.ensures,
  (numbered.0 ∙ ap Err c.open_refusal.ensures, numbered.1),
)

pub returns-in-Ok-open_or_create_with_attributes_in : goal.returns-in-Ok-open_or_create_with_attributes_in
returns-in-Ok-open_or_create_with_attributes_in g c = λ table after answer numbered. rw c.in-OpenOrCreate.is (
  Ok (c.in-Ok-open_or_create_with_attributes_in.factory.service.membership, c.in-Ok-open_or_create_with_attributes_in.factory.owner),
  rw c.builder_in-builder.ensures at c.in-Ok-open_or_create_with_attributes_in.ensures,
  numbered,
)

pub returns-in-Err-open_or_create_with_attributes_in : goal.returns-in-Err-open_or_create_with_attributes_in
returns-in-Err-open_or_create_with_attributes_in g c = λ table after answer numbered. rw c.in-OpenOrCreate.is (
  Err c.in-Err-open_or_create_with_attributes_in.error,
  rw c.builder_in-builder.ensures at c.in-Err-open_or_create_with_attributes_in.ensures,
  (numbered.0 ∙ ap Err c.either_refusal.ensures, numbered.1),
)
