-- Lemmas.
mod Putting
