use Rattle.stack_worked.proofs.PostContent.{post_is_taken}
use Rattle.stack_worked.proofs.PostSurvey.{post_is_surveyed}
use Rattle.stack_worked.proofs.PostScene.{post_scene_is_worked, the_same_is_true, certificates_of_post}
use Rattle.stack_worked.proofs.laws.drawn_post_law.Goals as goal

pub returns-clause-taken : goal.returns-clause-taken
returns-clause-taken _ = post_is_taken

pub returns-clause-survey : goal.returns-clause-survey
returns-clause-survey c = post_is_surveyed c.rectangles_by_ranges.ensures.overlaps
    c.rectangles_by_ranges.ensures.separation c.rectangles_by_ranges.ensures.contacts

pub returns-clause-scene : goal.returns-clause-scene
returns-clause-scene _ = post_scene_is_worked

pub returns-clause-same : goal.returns-clause-same
returns-clause-same _ = the_same_is_true

pub returns-clause-certificates : goal.returns-clause-certificates
returns-clause-certificates _ = certificates_of_post
