mod BatchTexts
mod GatheredItems
mod ItemsInOrder
mod PlayedTexts
mod SolvedItems
