mod LevelEdges
mod Boxes
mod BoxPoints
mod CommonRanges
mod BoxSides
mod BoxCommons
mod RectangleContacts
