-- The length is the number that the head's second and third byte spell, and the body is as many bytes behind the head.
use Rattle.std.proofs.Common.{length, take, Ok, Err, sym, ap, ◌∙◌, arith}
use Rattle.std.proofs.lemmas.List.{length-drop, take_rest}
use Rattle.layout.proofs.Heads.{size_read, length_refused, body_cut, body_there}
use Rattle.layout.proofs.bodies.body_at.Goals as goal

pub returns-then-not-is_legal : goal.returns-then-not-is_legal
returns-then-not-is_legal c =
    length_refused _ c.args.lengths c.args.place c.args.bytes.now _ c.in-len3-up.len_at_least c.if-found-tag.false
    (size_read _ _ c.in-len3-up.len_at_least c.from_be_bytes-size.ensures) (sym c.is_legal.ensures ∙ c.if-not-is_legal.true)
    ∙ ap Err (sym c.new-then-not-is_legal.ensures.value)

pub returns-then-size-rest : goal.returns-then-size-rest
returns-then-size-rest c =
    let xs = c.args.bytes.now in
    body_cut _ c.args.lengths c.args.place xs _ c.in-len3-up.len_at_least c.if-found-tag.false
    (size_read _ _ c.in-len3-up.len_at_least c.from_be_bytes-size.ensures) (sym c.is_legal.ensures ∙ c.if-not-is_legal.false)
    (omega (arith, ap length (take_rest xs 3), length-drop 3 xs))
    ∙ ap Err (sym c.new-then-size-rest.ensures.value)

pub returns : goal.returns
returns c =
    let xs = c.args.bytes.now in
    body_there _ c.args.lengths c.args.place xs _ c.in-len3-up.len_at_least c.if-found-tag.false
    (size_read _ _ c.in-len3-up.len_at_least c.from_be_bytes-size.ensures) (sym c.is_legal.ensures ∙ c.if-not-is_legal.false)
    (omega (arith, ap length (take_rest xs 3), length-drop 3 xs))
    ∙ ap (λ rest. Ok (take c.from_be_bytes-size.result rest)) (sym (take_rest xs 3))
