-- The connections of a port after one of them got other sizes.
use Rattle.std.specs.Prelude.{◌==◌, if◌then◌else◌, List, map}
use Rattle.iox_lanes_base.specs.declared.calls.route.Route.{Route}

-- The connection as its port knows it from now on: the new one if it has the same number.
abbrev pub known_as : Route → Route → Route
known_as route own = if own.connection == route.connection then route else own

-- The connections of a port after each one with the number of `route` was replaced by `route`.
abbrev pub rerouted : Route → List Route → List Route
rerouted route routes = map (known_as route) routes
