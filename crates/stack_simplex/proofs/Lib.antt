mod RunPhases
