-- How the services of a run of commands get their numbers.
mod Told
mod ByRules
