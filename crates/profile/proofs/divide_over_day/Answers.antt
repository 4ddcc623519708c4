use Rattle.std.proofs.Common.{◌≡◌, map, ℤ, pos, ap, ◌∙◌, arith, w32, to_z}
use Rattle.std.proofs.lemmas.Int.{to_z_pos}
use Rattle.split.specs.Parts.{parts_of}
use Rattle.profile.proofs.Quarters.{parts_pos}
use Rattle.profile.proofs.divide_over_day.Goals as goal

pub returns : goal.returns
returns c =
    let r = c.args.reading.now in
    let ws = c.args.weights.now in
    let cast = to_z_pos w32 r.energy (omega (arith, c.requires.energy)) in
    let parts : c.split-divided.new.parts ≡ parts_of (to_z w32 r.energy) r.profile_total r.profile_before (map pos ws) = c.in-Ok.ensures.after in
    parts
    ∙ ap (λ (z : ℤ). parts_of z r.profile_total r.profile_before (map pos ws)) cast
    ∙ parts_pos r.energy r.profile_total r.profile_before ws
