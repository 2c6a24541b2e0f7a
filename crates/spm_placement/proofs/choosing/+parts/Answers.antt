use Rattle.std.proofs.Common.{◌-◌, [], length, drop, take, All, ap, subst, sym, ◌∙◌, arith}
use Rattle.std.proofs.lemmas.List.{drop_all}
use Rattle.std.proofs.lemmas.List.Elements.{All-drop, All-take}
use Rattle.spm_placement.specs.Sets.{HasSmallGain}
use Rattle.spm_placement.specs.Tops.{all_words, useful}
use Rattle.spm_placement.specs.Rows.{HasTops}
use Rattle.spm_placement.proofs.Useful.{part_all, useful_few, useful_part, useful_several}
use Rattle.spm_placement.proofs.Chosen.{all_chosen, part_chosen, part_long, useful_chosen}
use Rattle.spm_placement.proofs.RowLemmas.{cell_is, row_tops}
use Rattle.spm_placement.proofs.choosing.+parts.Goals as goal

pub choose_among-returns-then-all_fit : goal.choose_among-returns-then-all_fit
choose_among-returns-then-all_fit t c =
    let fits = c.all_fit.ensures.fit c.if-all_fit.true in
    let same = ap all_words (c.deref.ensures.value ∙ sym c.deref-then-all_fit.ensures.value) in
    all_chosen c.args.words c.args.items.now c.deref-then-all_fit.result.now c.args.chosen.now.items c.take_all.new.chosen.items
    (c.deref-then-all_fit.ensures.value ∙ c.in_ok-useful.ensures) (omega (arith, fits, same)) c.in_ok-take_all.ensures

pub choose_among-choose_before-requires : goal.choose_among-choose_before-requires
choose_among-choose_before-requires t c =
    let own = c.deref-2.ensures.value ∙ c.in_ok-useful.ensures in
    let count = ap length own in
    let few = useful_few c.args.words c.args.items.now in
    let limit = c.requires.count in
    let more = c.all_fit.ensures.not c.if-all_fit.false in
    let takes = ap all_words (c.deref.ensures.value ∙ c.in_ok-useful.ensures) in
    let several = useful_several c.args.words c.args.items.now (omega (arith, more, takes)) in
    let len = c.len.ensures in
    let same = c.deref-2.ensures.len in
    let long = ap length c.deref-3.ensures.value ∙ c.in_ok-row.ensures.long in
    let words = c.requires.words in
    let none = drop_all c.len.result c.deref-2.result.now (omega (arith, len, same)) in (
      omega (arith, c.decreases, count, few, len, same),
      (
        omega (arith, several, count),
        (
          omega (arith, count, few, limit),
          (
            omega (arith, len, same),
            (
              subst (All HasSmallGain) (sym own) (part_all HasSmallGain (useful c.args.words c.args.items.now) c.args.items.now (useful_part c.args.words c.args.items.now) c.requires.gains),
              (
                omega (arith, long),
                (
                  omega (arith, long, words),
                  subst (λ ys. HasTops ys c.deref-3.result.now) (sym none) (subst (HasTops []) (sym c.deref-3.ensures.value) c.in_ok-row.ensures.tops),
                ),
              ),
            ),
          ),
        ),
      ),
    )

pub choose_among-returns : goal.choose_among-returns
choose_among-returns t c =
    let len = c.len.ensures in
    let same = c.deref-2.ensures.len in
    let long = ap length c.deref-3.ensures.value ∙ c.in_ok-row.ensures.long in
    useful_chosen c.args.words c.in_ok-choose_before.field-0 c.args.items.now c.deref-2.result.now c.args.chosen.now.items c.choose_before.new.chosen.items
    (c.deref-2.ensures.value ∙ c.in_ok-useful.ensures) c.len.result (length c.deref-3.result.now - 1) (omega (arith, len, same)) (omega (arith, long)) c.in_ok-choose_before.ensures

pub choose_before-choose_before-requires : goal.choose_before-choose_before-requires
choose_before-choose_before-requires t c =
    let items = c.args.items.now in
    let from = c.start_of-from.result in
    let before = c.start_of-from.ensures.before in
    let within = c.requires.upto in
    let long = ap length c.deref.ensures.value ∙ c.in_ok-row.ensures.long in
    let some = c.requires.words in
    let most = c.requires.most in (
      omega (arith, c.decreases, before),
      (
        c.requires.some,
        (
          c.requires.count,
          (
            omega (arith, before, within),
            (
              c.requires.gains,
              (
                omega (arith, long, some),
                (
                  omega (arith, long, most),
                  subst (HasTops (drop from items)) (sym c.deref.ensures.value) (row_tops items from c.args.upto c.in_ok-row.row.items (omega (arith, before)) c.in_ok-row.ensures.row),
                ),
              ),
            ),
          ),
        ),
      ),
    )

pub choose_before-choose_among-requires : goal.choose_before-choose_among-requires
choose_before-choose_among-requires t c =
    let items = c.args.items.now in
    let from = c.start_of-from.result in
    let before = c.start_of-from.ensures.before in
    let part = c.start_of-from.ensures.part in
    let within = c.requires.upto in
    let count = c.requires.count in
    let most = c.requires.most in
    let long = ap length c.deref.ensures.value ∙ c.in_ok-row.ensures.long in
    let fits = c.in_ok-share.ensures.fits in
    let own = part_long items from c.args.upto (omega (arith, before)) within in (
      omega (arith, c.decreases, own, before, part, within, count),
      (
        omega (arith, own, part, count),
        (
          omega (arith, fits, long, most),
          All-take HasSmallGain (c.args.upto - from) (drop from items) (All-drop HasSmallGain from items c.requires.gains),
        ),
      ),
    )

pub choose_before-returns : goal.choose_before-returns
choose_before-returns t c =
    let items = c.args.items.now in
    let from = c.start_of-from.result in
    let before = c.start_of-from.ensures.before in
    let long = ap length c.deref.ensures.value ∙ c.in_ok-row.ensures.long in
    let some = c.requires.words in
    let fits = c.in_ok-share.ensures.fits in
    let same = c.in_ok-row.ensures.long in
    let cell = cell_is (take (c.args.upto - from) (drop from items)) (drop c.args.upto items) c.in_ok-row.row.items c.in_ok-share.share c.index.result.now (omega (arith, fits, long, same, some)) c.index.ensures c.in_ok-row.ensures.row in
    part_chosen items from c.args.upto (length c.args.behind.now - 1) (length c.deref.result.now - 1) c.in_ok-share.share (omega (arith, before)) (omega (arith, long)) c.index.result.now
    c.args.chosen.now.items c.choose_before.new.chosen.items c.choose_among.new.chosen.items c.in_ok-share.ensures cell c.in_ok-choose_among.ensures
