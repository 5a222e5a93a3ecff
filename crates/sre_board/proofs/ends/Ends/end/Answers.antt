use Rattle.sre_board.proofs.Terms.{◌≡◌, ◌-◌, ◌+◌, ◌/◌, ◌%◌, ◌<◌, None, ap, sym, ◌∙◌, length, arith, get_or_read}
use Rattle.sre_board.proofs.Terms.{EndsTable, table_of, end_at, page_at}
use Rattle.sre_board.proofs.Pages.{past_pages, no_page, end_there}
use Rattle.sre_board.proofs.ends.Ends.end.Goals as goal

pub returns-then-word-len : goal.returns-then-word-len
returns-then-word-len g c =
    let t = table_of c.self.inside.pages.items c.self.inside.ends.items in
    sym (past_pages t c.args.number (omega (arith, c.len.ensures, c.if-word-len.true)))
    ∙ ap (λ (u : EndsTable). end_at u c.args.number) c.self.view_is

pub returns-then-page-eq0 : goal.returns-then-page-eq0
returns-then-page-eq0 g c =
    let ps = c.self.inside.pages.items in
    let w = c.args.number / 64 in
    let there : w < length ps = omega (arith, c.len.ensures, c.if-word-len.false) in
    let page = get_or_read ps w c.index-page.result.now there c.index-page.ensures 0 in
    sym (no_page (table_of ps c.self.inside.ends.items) c.args.number c.index-page.result.now page c.if-page-eq0.true)
    ∙ ap (λ (u : EndsTable). end_at u c.args.number) c.self.view_is

pub overflow_add-page : goal.overflow_add-page
overflow_add-page g c =
    let ps = c.self.inside.pages.items in
    let w = c.args.number / 64 in
    let there : w < length ps = omega (arith, c.len.ensures, c.if-word-len.false) in
    let page : c.index-page.result.now ≡ page_at ps w =
    get_or_read ps w c.index-page.result.now there c.index-page.ensures 0 in
    let within = c.self.invariant.within w (omega (arith, page, c.if-page-eq0.false)) in
    omega (arith, page, within, c.len-places.ensures, c.len-places.type_inv)

pub returns : goal.returns
returns g c =
    let ps = c.self.inside.pages.items in
    let es = c.self.inside.ends.items in
    let p = c.index-page.result.now in
    let w = c.args.number / 64 in
    let there : w < length ps = omega (arith, c.len.ensures, c.if-word-len.false) in
    let page : p ≡ page_at ps w = get_or_read ps w p there c.index-page.ensures 0 in
    let some : 0 < p = omega (arith, c.if-page-eq0.false) in
    let within = c.self.invariant.within w (omega (arith, page, some)) in
    let place : p - 1 + c.args.number % 64 < length es = omega (arith, page, some, within) in
    get_or_read es (p - 1 + c.args.number % 64) c.index.result.now place c.index.ensures None
    ∙ sym (end_there (table_of ps es) c.args.number p page some)
    ∙ ap (λ (u : EndsTable). end_at u c.args.number) c.self.view_is
