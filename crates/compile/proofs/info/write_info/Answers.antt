use Rattle.std.proofs.Common.{◌<◌, ◌++◌, map, sym, ◌∙◌, subst}
use Rattle.layout.proofs.Cursors.{Rest, room, step}
use Rattle.plan.specs.Steps.{step_of}
use Rattle.plan.specs.UnwindInfos.{codes, frame_byte, pad, info_bytes}
use Rattle.compile.proofs.Coding.{frame-fits, header_room, headed}
use Rattle.compile.proofs.info.write_info.Goals as goal
use Rattle.compile.proofs.info.write_info.Goals.{After-put}

pub frame_of-frame-requires : goal.frame_of-frame-requires
frame_of-frame-requires c = subst (λ f. frame_byte f < 256) (sym c.frame_register.ensures) (frame-fits _ c.requires.sound)

pub put-requires : goal.put-requires
put-requires c = header_room c.args.out.now _ c.requires.room _ _ c.prologue_size-prologue.ensures.size c.codes_size-size.ensures.size _ c.frame_register.ensures _ c.frame_of-frame.ensures

after_header : (c : After-put) → let ss = map step_of c.args.steps.now in
    Rest c.args.out.now (info_bytes ss) c.put.new.self (codes 0 ss ++ pad c.codes_size-size.result)
after_header c = headed c.args.out.now _ c.requires.room _ _ c.prologue_size-prologue.ensures.size c.codes_size-size.ensures.size _ c.frame_register.ensures _ c.frame_of-frame.ensures _ c.put.ensures

pub write_codes-requires-clause-room : goal.write_codes-requires-clause-room
write_codes-requires-clause-room c = room _ _ (after_header (goal.at.write_codes-requires-clause-room c).After-put)

pub write_pad-requires : goal.write_pad-requires
write_pad-requires c = (step _ _ (after_header (goal.at.write_pad-requires c).After-put) _ c.write_codes.ensures).room

pub returns : goal.returns
returns c = c.write_pad.ensures ∙ (step _ _ (after_header (goal.at.returns c).After-put) _ c.write_codes.ensures).same
