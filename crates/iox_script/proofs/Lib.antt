-- Lemmas on scripts.
mod Counted
mod Breaking
mod Following
