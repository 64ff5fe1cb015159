-- The container error that an error of an index set becomes.
use Rattle.iox_container.specs.declared.error.UniqueIndexSetAcquireFailure.{UniqueIndexSetAcquireFailure}
use Rattle.iox_container.specs.declared.error.UniqueIndexSetAcquireFailure.TheVariants as index
use Rattle.iox_container.specs.declared.error.ContainerAddFailure.{ContainerAddFailure}
use Rattle.iox_container.specs.declared.error.ContainerAddFailure.TheVariants as place

-- `OutOfIndices` becomes `OutOfSpace`, and `IsLocked` stays `IsLocked`.
abbrev pub add_failure_of : UniqueIndexSetAcquireFailure → ContainerAddFailure
add_failure_of index.OutOfIndices = place.OutOfSpace
add_failure_of index.IsLocked = place.IsLocked
