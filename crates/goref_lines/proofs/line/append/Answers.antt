use Rattle.std.proofs.Common.{◌≡◌, ◌∙◌, ◌<◌, ◌≤◌, ◌+◌, ◌++◌, ap, length, arith}
use Rattle.std.proofs.lemmas.Bool.Decides.{nat_tests}
use Rattle.goref_lines.specs.declared.line.TheConstants.{LINE_LIMIT}
use Rattle.goref_lines.proofs.Pushes.{prefix_room, longer_room, prefix_cut, longer_cut}
use Rattle.goref_lines.proofs.line.append.Goals as goal

pub returns-then-bytes-room : goal.returns-then-bytes-room
returns-then-bytes-room c = λ whole kept.
    let text = c.args.text.now.items in
    let room : length text + length c.args.bytes.now ≤ LINE_LIMIT = grind (arith, nat_tests) in
    record {
      prefix = c.extend_text.ensures ∙ prefix_room LINE_LIMIT text whole kept.prefix c.args.bytes.now room;
      longer = longer_room LINE_LIMIT text whole kept.prefix c.args.bytes.now c.args.is_long.now room kept.longer;
    }

pub returns-else-bytes-room : goal.returns-else-bytes-room
returns-else-bytes-room c = λ whole kept.
    let text = c.args.text.now.items in
    let room = c.remaining_capacity-room.result in
    let full : room + length text ≡ LINE_LIMIT = c.remaining_capacity-room.ensures in
    let more : room < length c.args.bytes.now = grind (arith, nat_tests) in
    record {
      prefix = c.extend_text-else-bytes-room.ensures ∙ ap (λ bytes. text ++ bytes) c.split_at.ensures.front
          ∙ prefix_cut LINE_LIMIT text whole kept.prefix c.args.bytes.now room full more;
      longer = longer_cut LINE_LIMIT text whole kept.prefix c.args.bytes.now room full more;
    }
