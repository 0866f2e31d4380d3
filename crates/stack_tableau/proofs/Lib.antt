mod Turns
mod RunPhases
