-- `differ_line`: its runs, one after another.
use Rattle.std.proofs.Common.{◌++◌, refl, append_assoc}
use Rattle.text.specs.Text.{ascii, word_text}
use Rattle.lines.specs.Lines.{opening, differ_line, accepted_by}
use Rattle.lines.proofs.differ_line.Goals as goal

pub returns : goal.returns
unfolding differ_line
returns g c =
    let a = c.args in
    rw (c.push-2.ensures.text, c.accepted_by.ensures.text, c.push_word.ensures.text, c.push.ensures.text, c.begin-line.ensures.text)
    (rw (append_assoc (opening a.index (ascii " differ dim ") a.d) (ascii " word ") (word_text a.word.now), append_assoc (opening a.index (ascii " differ dim ") a.d) (ascii " word " ++ word_text a.word.now) (accepted_by a.side), append_assoc (ascii " word ") (word_text a.word.now) (accepted_by a.side)) refl)
